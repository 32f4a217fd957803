use Rattle.std.proofs.Common.{◌≡◌, ◌+◌, ◌-◌, ◌<◌, get_or, length, arith, rules}
use Rattle.std.proofs.lemmas.List.Elements.{All-get_or}
use Rattle.trau_params.proofs.Fronts.{read_none, read_fits, read_next}
use Rattle.gsm_frame.proofs.pair.octet_at.Goals as goal

pub loop-t-init : goal.loop-t-init
loop-t-init c = record { fits = search rules; bits = read_none c.args.bits.now c.args.at 8 }

pub loop-t-preserved : goal.loop-t-preserved
loop-t-preserved c =
    let long : length c.args.bits.now ≡ 520 = search rules in
    let bit : get_or c.args.bits.now (c.args.at + (c.loop-t.t - 1)) 0 < 2 =
    All-get_or (λ b. b < 2) c.args.bits.now (c.args.at + (c.loop-t.t - 1)) 0 (omega arith) c.requires.bits in
    record {
      fits = read_fits 8 c.loop-t.t c.loop-t.octet _ (omega arith) (omega arith) bit c.loop-t.invariant.fits;
      bits = read_next c.args.bits.now c.args.at 8 c.loop-t.t c.loop-t.octet (omega arith) (omega arith) (omega arith) bit c.loop-t.invariant.bits;
    }
