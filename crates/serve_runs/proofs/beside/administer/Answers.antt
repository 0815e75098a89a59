use Rattle.std.proofs.Common.{[], refl, sym, append-nil}
use Rattle.server_hall.specs.StopNews.{unasked}
use Rattle.desk_keeper.specs.Keeper.{disk_of}
use Rattle.admin_door.proofs.Running.{runs-none}
use Rattle.serve_runs.proofs.beside.administer.Goals as goal

pub returns-then-not-decide : goal.returns-then-not-decide
returns-then-not-decide g c =
    record {
      frames = [];
      told = unasked;
      works = record {
        visits = [];
        fresh = tt;
        in_turn = refl;
        ending = (refl, refl);
        given_back = λ after is. (after, is, sym (append-nil after));
        counted = refl;
      };
      runs = runs-none g.D.Disk.state g.D.Disk.moment g.D.Disk.left_since c.args.keeper.now
          (g.met.D.Disk.only_now (disk_of c.args.keeper.now));
      hung = tt;
      same_disk = refl;
      same_kind = refl;
    }
