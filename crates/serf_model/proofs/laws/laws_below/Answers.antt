use Rattle.std.specs.Prelude.{[]}
use Rattle.serf_model.proofs.laws.laws_below.Goals as goal

pub returns : goal.returns
returns c = record {
  spelled = λ packet m. (c.exact_decoding.ensures.spells packet m).1;
  in_range = c.decoded_ranges.ensures;
  canonical = c.canonical_packets.ensures;
  slots = c.slot_laws.ensures.events;
  clock_grows = c.text_laws.ensures.grows;
  clock_below = c.text_laws.ensures.below;
  short = c.short_packets.ensures;
  sound = c.sound_steps.ensures.sound;
  admits = c.sound_steps.ensures.admits;
  keeps = record {
    begins = c.kept_life_promises.ensures.begins;
    stays = c.kept_life_promises.ensures.stays;
    event_texts = c.kept_text_laws.ensures.events;
    query_texts = c.kept_text_laws.ensures.queries;
    events = c.keeping_laws.ensures.events;
    queries = c.keeping_laws.ensures.queries;
    taking = c.kept_life_promises.ensures.taking;
    query_taking = c.kept_life_promises.ensures.queries_taking;
    said = c.kept_life_promises.ensures.queries_said;
    fired_queries_joined = c.said_query_laws.ensures.joined;
    lowest = c.read_laws.ensures.lowest;
    min_joined = c.min_time_laws.ensures.joined;
  };
  says = record {
    joined = c.said_laws.ensures.joined;
    sealed = c.event_line_laws.ensures.sealed;
    event_line = c.said_laws.ensures.event;
    query_line = c.said_laws.ensures.query;
    min_line = c.said_laws.ensures.lowest;
    clock_line = c.said_laws.ensures.clock_line;
    kept_clock_line = c.said_laws.ensures.kept_clock_line;
    compacted = c.said_laws.ensures.compacted;
    kept_compacted = c.said_laws.ensures.kept_compacted;
    can_be_written = c.read_laws.ensures.events;
  };
  whole = record {
    both = c.kept_append_line_laws.ensures.whole;
    sealed = c.text_laws.ensures.sealed_whole;
    event_line = λ t name payload. (c.kept_append_line_laws.ensures.event t name payload).whole;
    query_line = λ t id. (c.kept_append_line_laws.ensures.query t id).whole;
    min_line = λ k t. (c.kept_append_line_laws.ensures.lowest k t).whole;
    clock_line = λ k t. c.text_laws.ensures.line_whole k [] t;
    kept_clock_line = λ k t. c.kept_append_line_laws.ensures.clock_line_whole k [] t;
    compacted = c.text_laws.ensures.compacted_whole;
    kept_compacted = c.said_laws.ensures.kept_compacted_whole;
  };
}
