-- `into_loose` passes the pointer on, and with it the box.
use Rattle.std.proofs.Common.{◌≡◌, List, [], ◌∷◌, ◌++◌, refl, ap, ◌∙◌, arith}
use mir.Syntax.{impl, tnil, dnil}
use mir.Raw.{raw as bare}
use mir.Val.{Val, vptr}
use base.Logic.{SProp, emp, never, fst∗}
use prog.Wp.{WpFn}
use types.Logic.{sem}
use types.Kit.{‵, raw, ◌⊛◌, prop, ◌$◌, ◌∵◌, !, qed, by, move, keep, drop, split, fsplit, fjoin, use0, regoal, rewrite}
use types.Run.{stop, fld, of_opd, no_more, and_then, returns, enter}
use types.ByLocal.{alloc_all, pass_all, free_all, look_at, get, get_in, sets}
use types.Part.{agg, sub, whole}
use contract.Monad.{fact, fact_i}
use contract.Running.{tables}
use denote.RattleType.{RattleType, owns}
use denote.Signature.{types_at, plain}
use denote.Memory.{lone}
use denote.RawPtr.{Ptr, block_ptr, null_ptr, in_a_block}
use denote.Steps.{nothing, heard}
use denote.Triple.Entry.{alive}
use denote.Triple.Walked.{Stays, stay_dropped, walk_of}
use Rattle.std.specs.Prelude.{Option, None, Some, IsSome}
use Rattle.core.proofs.alloc.Calls.{Al, Goes-blank, handle_tells}
use Rattle.std.proofs.raw_atomic.Walks.{proved_at, leaves}
use Rattle.std_alloc.specs.Box.Ownership.{box_owns}
use Rattle.std_heap.specs.contracts.Global as heap
use Rattle.std_heap.proofs.Global.TheLaws as heap_laws
use Rattle.std_heap.specs.contracts.GlobalAllocator.TheImpl.{ghosts}
use Rattle.client_core.specs.declared.machines.Machine.{Machine}
use Rattle.client_core.specs.contracts.machines.Machine as machine
use Rattle.loose_boxes.proofs.Values.{both, loose_good, loose_in}
use Rattle.client_c.specs.Owned.{machine_owns, token}
use Rattle.client_c.proofs.HeldValues.{list_val, list_told, list_typed}
use Rattle.client_c.specs.contracts.held.Held as held
use Rattle.client_c.specs.contracts.held.Held.into_loose.{ended, clauses}
use Rattle.client_c.specs.contracts.held.Held.into_loose.Key.{name as #self}
use Rattle.client_c.proofs.held.Held.into_loose.Statement.{statement}
use Rattle.client_c.proofs.held.Held.into_loose.Code as code

some_of : (o : Option Machine) → IsSome o → (v : Machine) × (o ≡ Some v)
some_of None h = grind arith
some_of (Some v) h = (v, refl)

pub into_loose_spec : {M : Type 1} → statement M
into_loose_spec 𝓤 𝓛 𝓜 𝓡 wired =
    let H = 𝓛.H in let 𝓣 = tables 𝓤 H 𝓜 𝓡 𝓡.env in let R : RattleType = machine.the_row in let Z : RattleType = heap.the_row in let LZ = heap_laws.the_row_laws in
    let al : Al = record { row = Z; laws = LZ; g = ghosts; d = impl [] tnil dnil; drops = impl [] tnil dnil } in
    let En = ended in let c = clauses 𝓛 𝓜.mem 𝓡.returns in let fn = code.function in
    let hs : Stays En.signature.params En.kept = (stay_dropped (plain (λ _. held.the_row)) En.kept.0, (stay_dropped (plain (λ _. Z)) En.kept.1.0, tt)) in
    proved_at 𝓛 En hs c 𝓜 𝓡 (Goes-blank 𝓛 0 (plain (λ _. held.the_row)) En.kept.0 (λ κs x f. tt), (Goes-blank 𝓛 0 (plain (λ _. Z)) En.kept.1.0 (λ κs x f. tt), tt)) #self fn (code.unfolded 𝓤 H 𝓜 𝓡 wired) (λ z are.
    let κs = z.0.0 in let x = z.0.3.0 in let a = z.0.3.1.0 in let Post : Val → SProp 𝓤 = (walk_of 𝓛 En hs c).post z in
    qed 𝓛 ((raw (alive 𝓛 En.signature z.0.0 z.0.1) ⊛ ‵ (owns (types_at En.signature.params κs) z.0.3 z.0.4)) ∷ raw (fact 𝓤 (IsSome x.value)) ∷ []) ∵ move ! (1 ∷ []) $ heard ! (IsSome x.value) (λ is. let v : Machine = (some_of x.value is).0 in let has : x.value ≡ Some v = (some_of x.value is).1 in
    split ! $ move ! (1 ∷ []) $ fsplit ! $ fsplit ! $ drop ! $ rewrite ! 0 (λ (o : Option Machine). ‵ (machine_owns x.at o)) has refl $
    move ! (1 ∷ []) $ fsplit ! $ handle_tells al ! a z.0.4.1.0 (λ h ea fits. move ! (2 ∷ []) $
    in_a_block ! x.at (λ p. box_owns token R p v) (fst∗ 𝓤 (never 𝓤) (sem 𝓛 (token (bare (lone R.mir)) null_ptr))) (λ b o e.
    -- [the box; the handle; nothing; what is alive]
    keep ! (0 ∷ 1 ∷ 3 ∷ []) $ let told = (list_told x.at z.0.4.0 are.0.0).0 ∙ ap (λ (p : Ptr). list_val p ∷ []) e in
    regoal ! (λ (us : List Val). prop (WpFn 𝓤 H 𝓣.C 𝓣.Λ fn us Post)) (λ i. told i ++ (ea i ++ [])) refl $
    let made = loose_good R Z LZ ghosts b o h fits in
    enter ! 𝓣.C 𝓣.Λ fn (list_val (block_ptr b o) ∷ h ∷ []) Post $ alloc_all ! (λ l. pass_all ! refl (list_typed (block_ptr b o) tt, (fits, tt)) $
    sets ! (of_opd ! (get_in ! (fld ! refl (stop !)) (sub ! 0 refl (whole !)))) refl (tt, tt) $
    sets ! (of_opd ! (get ! refl)) refl (tt, tt) $
    sets ! (agg ! (and_then ! (get ! refl) (and_then ! (get ! refl) (no_more !)))) refl made $
    returns ! (look_at ! 0 refl) $ free_all ! refl $ loose_in R Z LZ ghosts ! b o h a v $
    use0 𝓛 (raw (fact 𝓤 (x.value ≡ Some v))) (fact_i 𝓤 (x.value ≡ Some v) (emp 𝓤) has) $ nothing ! $ nothing ! $ fjoin ! $ nothing ! $ fjoin ! $ move ! (3 ∷ 0 ∷ 2 ∷ 1 ∷ []) $
    by ! (leaves 𝓛 En hs c z (both (vptr b o) h) (record { at = block_ptr b o; alloc = a; value = v }) (tt, (tt, tt)) (tt, (tt, tt))))))))
