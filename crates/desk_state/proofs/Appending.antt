-- Changes gathered install by install.
use Rattle.std.proofs.Common.{◌≡◌, ℕ, ◌+◌, ◌<◌, Bool, List, [], ◌∷◌, ◌++◌, append_assoc, get_or, length, map, take, sym, ap, ◌∙◌}
use Rattle.std.specs.List.{filter}
use Rattle.std.proofs.lemmas.Grind.{flat_map-append}
use Rattle.std.proofs.lemmas.List.{append-nil, take_more, map-append}
use Rattle.std.proofs.lemmas.List.Elements.{filter-append}
use Rattle.bucket_store.specs.declared.policy_changes.Change.{Change}
use Rattle.app_registry.specs.Manifest.{install_grants, grants}
use Rattle.app_registry.specs.declared.installs.Install.{Install}
use Rattle.desk_state.specs.parts.Following.{grant_change, grant_changes}

two-parts : (allowed : Bool) (test : Install → Bool) (xs ys : List Install)
    → grant_changes allowed test (xs ++ ys) ≡ grant_changes allowed test xs ++ grant_changes allowed test ys
two-parts allowed test xs ys =
    ap (λ list. map (grant_change allowed) (grants list)) (filter-append test xs ys)
    ∙ ap (map (grant_change allowed)) (flat_map-append install_grants (filter test xs) (filter test ys))
    ∙ map-append (grant_change allowed) (grants (filter test xs)) (grants (filter test ys))

pub changes-more : (allowed : Bool) (test : Install → Bool) (installs : List Install) (old rows new : List Change) (i : ℕ) (install : Install)
    → i < length installs → install ≡ get_or installs i install → rows ≡ old ++ grant_changes allowed test (take i installs)
    → new ≡ rows ++ grant_changes allowed test (install ∷ []) → new ≡ old ++ grant_changes allowed test (take (i + 1) installs)
changes-more allowed test installs old rows new i install within at before after =
    let one_more : grant_changes allowed test (take (i + 1) installs)
    ≡ grant_changes allowed test (take i installs) ++ grant_changes allowed test (install ∷ []) =
    ap (grant_changes allowed test) (take_more installs i install within)
    ∙ two-parts allowed test (take i installs) (get_or installs i install ∷ [])
    ∙ ap (λ other. grant_changes allowed test (take i installs) ++ grant_changes allowed test (other ∷ [])) (sym at) in
    after ∙ ap (λ list. list ++ grant_changes allowed test (install ∷ [])) before
    ∙ append_assoc old (grant_changes allowed test (take i installs)) (grant_changes allowed test (install ∷ []))
    ∙ ap (λ list. old ++ list) (sym one_more)

-- the same of all installs
pub granted-more : (allowed : Bool) (installs : List Install) (old rows new : List Change) (i : ℕ) (install : Install)
    → i < length installs → install ≡ get_or installs i install
    → rows ≡ old ++ map (grant_change allowed) (grants (take i installs))
    → new ≡ rows ++ map (grant_change allowed) (install_grants install)
    → new ≡ old ++ map (grant_change allowed) (grants (take (i + 1) installs))
granted-more allowed installs old rows new i install within at before after =
    let here : map (grant_change allowed) (grants (get_or installs i install ∷ []))
    ≡ map (grant_change allowed) (install_grants install) =
    ap (map (grant_change allowed)) (append-nil (install_grants (get_or installs i install)) ∙ ap install_grants (sym at)) in
    let one_more : map (grant_change allowed) (grants (take (i + 1) installs))
    ≡ map (grant_change allowed) (grants (take i installs)) ++ map (grant_change allowed) (install_grants install) =
    ap (λ list. map (grant_change allowed) (grants list)) (take_more installs i install within)
    ∙ ap (map (grant_change allowed)) (flat_map-append install_grants (take i installs) (get_or installs i install ∷ []))
    ∙ map-append (grant_change allowed) (grants (take i installs)) (grants (get_or installs i install ∷ []))
    ∙ ap (λ last. map (grant_change allowed) (grants (take i installs)) ++ last) here in
    after ∙ ap (λ list. list ++ map (grant_change allowed) (install_grants install)) before
    ∙ append_assoc old (map (grant_change allowed) (grants (take i installs)))
    (map (grant_change allowed) (install_grants install))
    ∙ ap (λ list. old ++ list) (sym one_more)
