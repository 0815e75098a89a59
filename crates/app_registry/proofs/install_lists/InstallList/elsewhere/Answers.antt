use Rattle.std.proofs.Common.{refl, sym}
use Rattle.app_registry.proofs.Indexing.{none-elsewhere}
use Rattle.app_registry.proofs.install_lists.InstallList.elsewhere.Goals as goal

pub returns-then-is_new : goal.returns-then-is_new
returns-then-is_new c = sym (none-elsewhere c.args.install.now c.args.self.now (c.if-is_new.ensures refl))
