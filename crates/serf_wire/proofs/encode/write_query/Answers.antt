use Rattle.serf_wire.proofs.Names.{arith, query_of}
use Rattle.serf_wire.proofs.Short.{short_query}
use Rattle.serf_wire.proofs.encode.write_query.Goals as goal

pub write_query_route-requires : goal.write_query_route-requires
write_query_route-requires c =
    let s = short_query (query_of c.args.parts.now) c.requires in
    record { addr = s.addr; source = s.source; filters = s.filters; each = s.each }

pub write_question-requires : goal.write_question-requires
write_question-requires c =
    let s = short_query (query_of c.args.parts.now) c.requires in
    record { name = s.name; payload = s.payload }

pub returns-clause-ranged : goal.returns-clause-ranged
returns-clause-ranged c = record {
  time = omega (arith, c.get.ensures.value, c.get.ensures.time);
  id = assumption;
  port = c.in_ok-write_query_route.ensures.port;
  flags = c.in_ok-write_query_terms.ensures.flags;
  relay_factor = c.in_ok-write_query_terms.ensures.relay_factor;
  timeout = c.in_ok-write_query_terms.ensures.timeout;
}
