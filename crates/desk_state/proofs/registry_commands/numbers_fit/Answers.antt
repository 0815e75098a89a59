use Rattle.std.proofs.Common.{◌<◌, ◌^◌, List, [], ◌∷◌, take, get_or, sym, subst}
use Rattle.std.specs.List.{AllByRecursion}
use Rattle.std.proofs.lemmas.List.{take_more}
use Rattle.app_registry.specs.declared.users.User.{User}
use Rattle.app_registry.specs.declared.users.UserType.TheVariants.{System}
use Rattle.bucket_store.proofs.Lists.{All-append}
use Rattle.desk_state.proofs.registry_commands.numbers_fit.Goals as goal

pub loop-user-preserved : goal.loop-user-preserved
loop-user-preserved c =
    let users = c.args.users.now in
    let at = c.loop-user.user-index in
    let none : User = record { uid = 0; kind = System } in
    subst (λ (list : List User). AllByRecursion (λ (user : User). user.uid < 2 ^ 32) list) (sym (take_more users at none c.loop-user-test.true))
    (All-append (λ (user : User). user.uid < 2 ^ 32) (take at users) (get_or users at none ∷ []) c.loop-user.invariant (c.number_fits.ensures, tt))
