use Rattle.std.proofs.Common.{length, ap, arith, get_or}
use Rattle.pool_run.proofs.Rows.{passes_at}
use Rattle.pool_run.proofs.joins.row_len.Goals as goal

pub returns : goal.returns
returns g c =
    let ms = c.args.members.now in
    omega (
      arith,
      c.len.ensures,
      (get_or ms c.args.j c.index-members-j.result).passes.ok.0,
      ap length (passes_at ms c.args.j c.index-members-j.result c.requires),
    )
