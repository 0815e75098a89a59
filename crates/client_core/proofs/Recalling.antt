-- What is recalled is what a question and then a look come to.
use Rattle.std.proofs.Common.{◌≡◌, Bool, true, false, List, ℕ, Option, Some, None, refl, sym, ap, subst}
use Rattle.std.specs.Prelude.{if◌then◌else◌, is_some}
use Rattle.std.specs.Bool.{OnTrue, OnFalse}
use Rattle.bucket_eval.specs.declared.answers.Verdict.{Verdict}
use Rattle.answer_cache.specs.Cache.{Asked, Cache, answer_in, used, Recalls}
use Rattle.client_core.specs.Client.{Client}
use Rattle.client_core.specs.Asking as does
use Rattle.client_core.specs.declared.stages.Asking.{Asking}
use Rattle.client_core.specs.declared.stages.Stage.{Stage}
use Rattle.client_core.specs.declared.stages.Stage.TheVariants as stage
use Rattle.client_core.specs.declared.steps.Step.TheVariants as step

ready_if : (linked : Bool) (s : Stage) → (if linked then does.is_idle s else false) ≡ true → (linked ≡ true) × (s ≡ stage.Idle)
ready_if true stage.Idle h = (refl, refl)
ready_if true (stage.Looking asking) h = cc
ready_if true (stage.Dialling asking) h = cc
ready_if true (stage.Waiting asking ear) h = cc
ready_if false s h = cc

module _ (old : Client) (cache : Cache) (ready : does.is_ready old ≡ true) where
  linked : old.is_linked ≡ true
  linked = (ready_if old.is_linked old.stage ready).0

  idle : old.stage ≡ stage.Idle
  idle = (ready_if old.is_linked old.stage ready).1

  module _ (asked : Asked) where
    abbrev first : Asking
    first = does.first_try asked.session asked.question false

    abbrev mid : Client
    mid = record old { stage = stage.Looking first }

    asks : does.Asks asked.session asked.question false step.Look old mid
    asks =
        subst (λ (s : Stage). does.asks_at s first step.Look old mid) (sym idle)
        (subst (λ (b : Bool). does.begins b first step.Look old mid) (sym linked) (refl, refl))

    looks : (v : Verdict) → answer_in asked old.cache ≡ Some v → cache ≡ used asked old.cache
        → does.Looks true step.Kept mid (record old { cache = cache })
    looks v is moved =
        subst (λ (o : Option Verdict). does.finds o first step.Kept mid (record old { cache = cache })) (sym is)
        (refl, λ i. record old { cache = moved i; stage = idle i })

  pub recalls : (text : List ℕ) (found : Bool) → Recalls found text old.cache cache
      → does.Recalls found text old (record old { cache = cache })
  recalls text true r = (r.0, r.1, r.2, (mid r.0, asks r.0, looks r.0 r.3.0 r.3.1 r.4))
  recalls text false r = (ap (λ (c : Cache). record old { cache = c }) r.0, λ asked names is ready. r.1 asked names is)

  some : (found : Option Verdict) → true ≡ is_some found → (verdict : Verdict) × (found ≡ Some verdict)
  some (Some verdict) is = (verdict, refl)
  some None is = cc

  none : (found : Option Verdict) → false ≡ is_some found → found ≡ None
  none (Some verdict) is = cc
  none None is = refl

  pub reuses : (asked : Asked) (found : Bool) → found ≡ is_some (answer_in asked old.cache)
      → OnTrue found (cache ≡ used asked old.cache) → OnFalse found (cache ≡ old.cache)
      → does.Reuses found asked old (record old { cache = cache })
  reuses asked true is first same =
      let there = some (answer_in asked old.cache) is in
      (there, (mid asked, asks asked, looks asked there.0 there.1 first))
  reuses asked false is first same =
      (ap (λ (c : Cache). record old { cache = c }) same, λ ready. none (answer_in asked old.cache) is)
