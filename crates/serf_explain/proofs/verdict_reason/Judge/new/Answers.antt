use Rattle.serf_explain.proofs.Names.{[], ap, append-nil, arith, cond, max, refl, sym, ◌&&◌, ◌<◌, ◌∙◌, ◌≡◌, All-nil, slots_of, ConcreteState, Config}
use Rattle.serf_explain.proofs.JudgeLaws.{judging-heard}
use Rattle.serf_explain.proofs.verdict_reason.Judge.new.Goals as goal

pub returns : goal.returns
returns c = λ i m sound is same.
    let config : c.config-config.result.now ≡ i.config = c.config-config.ensures.config ∙ ap (λ (s : ConcreteState). s.config) is in
    let clock : c.max.result ≡ max i.events.clock m.event_clock = c.max.ensures ∙ (λ q. max ((c.event_time.ensures ∙ ap (λ (s : ConcreteState). s.events.clock) is) q) (sym same q)) in
    let minimum : c.max-2.result ≡ max i.events.minimum (cond (c.args.is_join && i.config.ignore_old) m.event_clock 0) =
    c.max-2.ensures ∙ (λ q. max ((c.event_minimum.ensures ∙ ap (λ (s : ConcreteState). s.events.minimum) is) q) ((c.lowest.ensures ∙ (λ p. cond (c.args.is_join && (config p).ignore_old) (sym same p) 0)) q)) in
    judging-heard i m c.args.is_join (record { clock = c.max.result; minimum = c.max-2.result; entered = c.in-Ok.entered })
    (record {
      entered = [];
      config_same = refl;
      life_same = refl;
      clock_is = sym clock;
      minimum_is = sym minimum;
      history_is = sym (append-nil i.events.history);
      slots_are = c.in-Ok.ensures.slots ∙ ap (λ (x : Config). slots_of x.event_buffer []) config;
      per_time_is = c.in-Ok.ensures.per_time ∙ ap (λ (x : Config). x.per_time) config;
      below = All-nil (λ e. e.time < c.max.result);
      clock_up = omega (arith, clock);
      minimum_up = omega (arith, minimum);
    })
