use Rattle.std.proofs.Common.{rules, ◌≡◌, false}
use Rattle.app_registry.specs.parts.Indexed.{is_among, IsIndexed}
use Rattle.app_registry.proofs.Indexing.{new-app}
use Rattle.app_registry.proofs.install_lists.InstallList.is_new.Goals as goal

pub returns-in-Err : goal.returns-in-Err
returns-in-Err c _ =
    let index = c.in-Some.index in
    let indexed : IsIndexed index.apps.items index.granted c.args.self.now = search rules in
    let new : is_among c.args.app.now index.apps.items ≡ false = search rules in
    new-app c.args.app.now index.apps.items c.args.self.now indexed.known new
