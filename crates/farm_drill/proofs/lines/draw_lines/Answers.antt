use Rattle.std.proofs.Common.{◌≡◌, ℕ, ◌++◌, List, sym, ap, ◌∙◌, arith}
use Rattle.std.specs.List.{range_with_len, flat_map}
use Rattle.farm_drill.specs.Uplink.{up_octets}
use Rattle.farm_drill.specs.Lines.{pcm_octets, up_line, pcm_line}
use Rattle.farm_drill.proofs.Octets.{line-more}
use Rattle.farm_drill.proofs.lines.draw_lines.Goals as goal

pub loop-period-preserved : goal.loop-period-preserved
loop-period-preserved c =
    let seed = c.args.seed in
    let call = c.args.call in
    let period = c.loop-period.period in
    let before = c.loop-period.invariant in
    let loud = c.uplink.ensures.now seed call before.now in
    record {
      now = c.pcm.ensures.now seed call loud;
      up = c.in_ok-extend_from_slice.ensures.items ∙ ap (λ (xs : List ℕ). xs ++ c.uplink.result) before.up
          ∙ ap (λ (xs : List ℕ). flat_map (up_octets seed call) (range_with_len 0 period) ++ xs) (c.uplink.ensures.octets seed call before.now)
          ∙ sym (line-more (up_octets seed call) period);
      pcm = c.in_ok-extend_from_slice-2.ensures.items ∙ ap (λ (xs : List ℕ). xs ++ c.pcm.result) before.pcm
          ∙ ap (λ (xs : List ℕ). flat_map (pcm_octets seed call) (range_with_len 0 period) ++ xs) (c.pcm.ensures.octets seed call loud)
          ∙ sym (line-more (pcm_octets seed call) period);
    }

pub returns-clause-up : goal.returns-clause-up
unfolding up_line
returns-clause-up c =
    let all : c.loop-period.period ≡ c.args.periods = omega (arith, c.loop-period.auto.period-end, c.loop-period-test.false) in
    c.loop-period.invariant.up ∙ ap (λ (n : ℕ). flat_map (up_octets c.args.seed c.args.call) (range_with_len 0 n)) all

pub returns-clause-pcm : goal.returns-clause-pcm
unfolding pcm_line
returns-clause-pcm c =
    let all : c.loop-period.period ≡ c.args.periods = omega (arith, c.loop-period.auto.period-end, c.loop-period-test.false) in
    c.loop-period.invariant.pcm ∙ ap (λ (n : ℕ). flat_map (pcm_octets c.args.seed c.args.call) (range_with_len 0 n)) all
