-- The installs of a registry before and after an install that takes the place of no other.
use Rattle.std.proofs.Common.{◌≡◌, ◌++◌, ◌∷◌, [], Bool, true, not, cond, ◌&&◌, List, sym, ap, ◌∙◌}
use Rattle.std.specs.List.{filter}
use Rattle.std.specs.Ordering.{is_lt}
use Rattle.std.proofs.lemmas.Cmp.{nat_list_eq_equiv, nat_eq_equiv}
use Rattle.std.proofs.lemmas.List.Elements.{filter-append}
use Rattle.app_registry.specs.Install.{install_cmp, is_install_of}
use Rattle.app_registry.specs.Rising.{placed}
use Rattle.app_registry.specs.Scope.{scope_rank, same_scope}
use Rattle.app_registry.specs.declared.installs.Install.{Install}
use Rattle.desk_state.proofs.Filters.{filter-within, filter-outside, filter-turn}

module _ (install : Install) (before : List Install) where
  abbrev pub is_own : Install → Bool
  is_own = is_install_of install.app install.scope

  abbrev pub is_other : Install → Bool
  is_other other = not (is_own other)

  abbrev pub after : List Install
  after = placed install_cmp install before

  itself : is_own install ≡ true
  itself =
      (λ i. nat_list_eq_equiv.refl install.app i && same_scope install.scope install.scope)
      ∙ nat_eq_equiv.refl (scope_rank install.scope)

  -- without it the installs are those before
  module _ (taken_back : filter is_other after ≡ before) where
    pub none-before : filter is_own before ≡ []
    none-before =
        ap (filter is_own) (sym taken_back) ∙ filter-outside is_own is_other (λ other passes. ap not passes) after

    pub others-stay : filter is_other after ≡ filter is_other before
    others-stay =
        sym (filter-within is_other is_other (λ other kept. kept) after) ∙ ap (filter is_other) taken_back

    none-of : (kept : Install → Bool) → filter is_own (filter kept before) ≡ []
    none-of kept = filter-turn is_own kept before ∙ ap (filter kept) none-before

    pub one-after : filter is_own after ≡ install ∷ []
    one-after =
        let below : Install → Bool = λ other. is_lt (install_cmp other install) in
        let above : Install → Bool = λ other. is_lt (install_cmp install other) in
        filter-append is_own (filter below before) (install ∷ filter above before)
        ∙ ap (λ list. list ++ filter is_own (install ∷ filter above before)) (none-of below)
        ∙ ap (λ b. cond b (install ∷ filter is_own (filter above before)) (filter is_own (filter above before))) itself
        ∙ ap (λ list. install ∷ list) (none-of above)
