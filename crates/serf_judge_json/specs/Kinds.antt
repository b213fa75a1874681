-- Events and queries.
use Rattle.std.specs.Prelude.{ℕ, List, codes}
use Rattle.serf_judge_json.specs.declared.kind.Kind.{Kind}
use Rattle.serf_judge_json.specs.declared.kind.Kind.TheVariants as kinds

abbrev pub kind_word : Kind → List ℕ
kind_word kinds.Event = codes "event"
kind_word kinds.Query = codes "query"

-- the promise that nothing of this kind is handed out twice
abbrev pub once_promise : Kind → List ℕ
once_promise kinds.Event = codes "Once"
once_promise kinds.Query = codes "QueryOnce"
