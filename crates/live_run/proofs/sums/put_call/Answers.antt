use Rattle.std.proofs.Common.{string_bytes}
use Rattle.live_run.proofs.Telling.{told}
use Rattle.live_run.proofs.sums.put_call.Goals as goal

pub returns : goal.returns
returns c =
    told c.put_sums.result (string_bytes c.args.text.now)
    (string_bytes c.put_sums.new.text) c.args.closed.now c.as_slice.result.now c.sums_of-sums.result.out c.sums_of-sums.result.down
    c.as_slice.ensures.value c.sums_of-sums.ensures.out c.sums_of-sums.ensures.down c.put_sums.ensures
