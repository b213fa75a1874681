-- A place as the machine represents it: one pointer. And a session can be dropped, as a call that is generic over what
-- it moves requires.
use mathlib.Core.Path.{◌≡◌, refl}
use mathlib.Core.List.{[], ◌∷◌}
use Rattle.serf_agent_c.proofs.Names.{IsSome, fsep, ftrue, SProp, emp, ent, ex, ex_e, ex_i, mono_r, sep, via, toks, fm→mono, Running, no, Is, arg, layout, signature, spent, Laws, arg_laws, Nothing, RattleType, Ptr, ptr_val, rawptr_Lawful, rawptr_pure, nothing, shape, Struct, Struct-Lawful, Struct-Makes, grown, spared, Meets, triple_of, run_framed, widened, T, Callee, Dict, dnil, impl, method, no_args, tcons, tnil, ty_ptr, Val, WT, has_ty, vcons, vnil, vstruct, Model, Wired, Ura, !, done, fjoin, join, qed, raw, show, ◌$◌, ◌∵◌, Logic, sem}
use mir.Raw.{raw as bare}
use Rattle.std.specs.Prelude.{Option, Some, None}
use Rattle.std_heap.specs.contracts.GlobalAllocator.TheImpl.{ghosts}
use types.Kit.{drop}
use denote.Param.Glue.{Met}
use Rattle.serf_agent_c.specs.contracts.session.Session.{the_row}
use Rattle.serf_agent_c.proofs.serf_agent_c++session++Session+Destruct.drop.Met.{met}
use Rattle.std_alloc.specs.contracts.boxed.Box as Box
use Rattle.std_alloc.proofs.boxed.Box.TheLaws as box
use Rattle.std_heap.specs.contracts.Global as Heap
use Rattle.std_heap.proofs.Global.TheLaws as heap
use Rattle.serf_agent_c.specs.contracts.session.Session as Session
use Rattle.serf_agent_c.proofs.session.Session.TheLaws as session
use Rattle.serf_agent_c.specs.contracts.handle.Place as Place
use Rattle.serf_agent_c.specs.contracts.serf_agent_c++session++Session+Destruct.drop as drops
use Rattle.serf_agent_c.proofs.serf_agent_c++session++Session+Destruct.drop.Symbol as symbol

abbrev pub word : Ptr → Val
word p = vstruct (vcons (ptr_val p) vnil)

-- only the pointer, which owns nothing
abbrev pub Pointer : RattleType
Pointer = Struct (shape Place.the_type)

abbrev pub is_word : (p : Ptr) → Is Pointer (p, tt) (word p ∷ [])
is_word p = ((ptr_val p ∷ [], tt), (refl, (refl, tt)))

module _ {M : Type 1} {𝓤 : Ura M} (𝓛 : Logic 𝓤) (p : Ptr) where
  pub pointer_made : ent 𝓤 (emp 𝓤) (sem 𝓛 (Pointer.own_val (p, tt) (word p ∷ [])))
  pointer_made = Struct-Makes 𝓛 (shape Place.the_type) (rawptr_pure, tt) (p, tt) (word p ∷ []) (is_word p)

  pub pointer_fits : T (has_ty ty_ptr (ptr_val p)) × WT (ptr_val p)
  pointer_fits = ((rawptr_Lawful 𝓛).typed p (ptr_val p ∷ []) refl).0

  pub fits : T (has_ty (layout Place.the_row) (word p)) × WT (word p)
  fits = ((Struct-Lawful 𝓛 (shape Place.the_type) (rawptr_Lawful 𝓛, tt)).typed (p, tt) (word p ∷ []) (is_word p)).0

-- the session and the heap, as they are passed for the type parameters of a box
abbrev pub Held : RattleType
Held = arg (bare (layout Session.the_row)) no Session.the_row

pub held_laws : Laws Held
held_laws = arg_laws (bare (layout Session.the_row)) no Session.the_row session.the_row_laws refl

abbrev pub Freed : RattleType
Freed = arg (bare (layout Heap.the_row)) no Heap.the_row

pub freed_laws : Laws Freed
freed_laws = arg_laws (bare (layout Heap.the_row)) no Heap.the_row heap.the_row_laws refl

-- the heap has nothing to drop
abbrev pub no_glue : Dict
no_glue = impl ("serf_agent_c::Destruct++none::drop" ∷ []) (tcons (layout Freed) tnil) dnil

-- a box of a session, as the machine represents it
abbrev pub Boxed : RattleType
Boxed = Box.the_row Session.the_row Heap.the_row ghosts

pub boxed_laws : Laws Boxed
boxed_laws = box.the_row_laws Session.the_row Heap.the_row ghosts session.the_row_laws heap.the_row_laws

-- the value that is there
pub found : {A : Type 0} (o : Option A) → IsSome o → (x : A) × (o ≡ Some x)
found (Some x) some = (x, refl)
found None some = absurd (cc some)

-- ---- dropping a session

-- a session, as it is passed for a type parameter
abbrev pub Passed : RattleType
Passed = arg (bare (layout the_row)) no the_row

abbrev pub glue : Dict
glue = impl ("serf_agent_c::serf_agent_c++session++Session+Destruct::drop" ∷ []) tnil dnil

module _ {M : Type 1} {𝓤 : Ura M} (𝓛 : Logic 𝓤) where
  -- what a caller knows about a value that was dropped
  abbrev Gone : SProp 𝓤
  Gone = ex 𝓤 (λ (ws : Unit {0} × Unit {0}). sep 𝓤 (sem 𝓛 (fsep ftrue ftrue)) (emp 𝓤))

  gone : (P : SProp 𝓤) → ent 𝓤 P Gone
  gone P = qed 𝓛 (raw P ∷ []) ∵ drop ! $ show ! (λ (ws : Unit {0} × Unit {0}). sep 𝓤 (sem 𝓛 (fsep ftrue ftrue)) (emp 𝓤)) (tt, tt) $ nothing ! $ nothing ! $ nothing ! $ fjoin ! $ join ! $ done !

pub goes : {M : Type 1} (𝓤 : Ura M) (𝓛 : Logic 𝓤) (𝓜 : Model 𝓤 𝓛.H) (𝓡 : Running 𝓤 𝓛.H 𝓜) → Wired 𝓡.env symbol.code → Met 𝓛 𝓜 𝓡 𝓡.env Passed glue
goes 𝓤 𝓛 𝓜 𝓡 wired y =
    let k : Callee = method glue 0 no_args in
    let framed = run_framed 𝓤 𝓛.H 𝓜 𝓡 (𝓡.env k) in
    let said = drops.spec 𝓛 𝓜.mem 𝓡.returns in
    let called : Meets 𝓛 drops.signature (𝓡.run (𝓡.env k)) said =
    widened 𝓤 𝓛.H (triple_of 𝓛 drops.signature said) 𝓜 𝓡 𝓡.env (𝓡.env symbol.name) (𝓡.env k) (symbol.as_method 𝓡.env wired k refl) (met 𝓤 𝓛 𝓜 𝓡 wired) in
    let here = grown 𝓛 drops.signature 1 (the_row.lives, tt) said in
    let there = triple_of 𝓛 (signature Passed) (spent 𝓛 Passed) in
    let Left : Val → Nothing.Denot → SProp 𝓤 = λ v r. sep 𝓤 (toks 𝓛 1 y.0.0 y.0.1) (sem 𝓛 (Nothing.own_val r (v ∷ []))) in
    let Written : Nothing.Denot → SProp 𝓤 = (said tt y.0.3).ensures tt in
    via 𝓤 (𝓡.run (𝓡.env k) (here.args y) (here.post y)) (spared 𝓛 drops.signature (𝓡.run (𝓡.env k)) framed 1 (the_row.lives, tt) said called y)
    (fm→mono 𝓤 (𝓡.run (𝓡.env k) (here.args y)) (framed (here.args y)) (here.post y) (there.post y) (λ v.
    𝓛.laws.⇛_mono (ex 𝓤 (λ r. sep 𝓤 (Left v r) (Written r))) (ex 𝓤 (λ r. sep 𝓤 (Left v r) (Gone 𝓛)))
    (ex_e 𝓤 (λ r. sep 𝓤 (Left v r) (Written r)) (λ r. via 𝓤 (sep 𝓤 (Left v r) (Gone 𝓛)) (mono_r 𝓤 (Left v r) (gone 𝓛 (Written r))) (ex_i 𝓤 (λ r. sep 𝓤 (Left v r) (Gone 𝓛)) r)))))
