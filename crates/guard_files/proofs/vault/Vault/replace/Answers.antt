use Rattle.guard_files.proofs.vault.Vault.replace.Goals as goal

pub returns-in_default-clause-moments : goal.returns-in_default-clause-moments
returns-in_default-clause-moments g c before told settled = c.save.ensures.moments before told c.args.self.now.held settled c.requires.prepared

pub returns-clause-settled : goal.returns-clause-settled
returns-clause-settled g c before told settled = c.in-Ok.ensures.done before told c.args.self.now.held settled c.requires.prepared

pub returns-clause-moments : goal.returns-clause-moments
returns-clause-moments g c before told settled = c.save.ensures.moments before told c.args.self.now.held settled c.requires.prepared
