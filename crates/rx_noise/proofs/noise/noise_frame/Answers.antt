use Rattle.std.proofs.Common.{◌≡◌, arith, sym, ap, ◌∙◌, ◌<◌}
use Rattle.trau_params.specs.Fields.{fields_of}
use Rattle.rx_muting.specs.Draws.{state_after, draw_of}
use Rattle.rx_noise.specs.Noise.{silent_from_fall, noise_at, noise_draws}
use Rattle.rx_noise.proofs.Falls.{noise_of-falling}
use Rattle.rx_noise.proofs.noise.noise_frame.Goals as goal

pub returns-then-fall-eq-SILENT_FROM_FALL-clause-source : goal.returns-then-fall-eq-SILENT_FROM_FALL-clause-source
unfolding state_after
returns-then-fall-eq-SILENT_FROM_FALL-clause-source c =
    ap (λ f. state_after c.args.draw.now.r (noise_draws f)) (sym c.if-fall-eq-SILENT_FROM_FALL.true)

pub returns-clause-fields : goal.returns-clause-fields
unfolding noise_at
returns-clause-fields c =
    let low : c.args.fall < silent_from_fall = omega arith in
    let same : fields_of c.new.result ≡ noise_at (fields_of c.args.sid.now) c.args.fall (draw_of c.args.draw.now.r) = cc in
    same ∙ sym (noise_of-falling (fields_of c.args.sid.now) c.args.fall (draw_of c.args.draw.now.r) low)
