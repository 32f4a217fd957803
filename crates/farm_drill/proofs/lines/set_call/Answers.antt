use Rattle.std.proofs.Common.{◌≡◌, ℕ, ◌*◌, List, [], slice_set, ap, ◌∙◌}
use Rattle.std.proofs.lemmas.Result.{on_ok_weaker}
use Rattle.trau_io.specs.declared.line.Side.TheVariants.{Up, Pcm, Down, Out}
use Rattle.trau_io.specs.Indices.{index_of_line}
use Rattle.trau_io.specs.Memory.{new_line}
use Rattle.farm_drill.proofs.Setting.{one_more_set}
use Rattle.farm_drill.proofs.lines.set_call.Goals as goal

pub returns : goal.returns
returns c =
    let seed = c.args.seed in
    let call = c.args.call in
    let periods = c.args.periods in
    let up : List ℕ = c.in_ok-up.field-0.up.items in
    let pcm : List ℕ = c.in_ok-up.field-0.pcm.items in
    let first : c.set_line.new.trunk ≡ slice_set c.args.trunk.now (index_of_line call Up) (new_line up [] [] 1) = c.in_ok-set_line.ensures in
    let second : c.set_line-2.new.trunk ≡ slice_set c.set_line.new.trunk (index_of_line call Pcm) (new_line pcm [] [] 1) = c.in_ok-set_line-2.ensures in
    let third : c.set_line-3.new.trunk ≡ slice_set c.set_line-2.new.trunk (index_of_line call Down) (new_line c.new.result.items [] [] (40 * periods)) =
    c.in_ok-set_line-3.ensures in
    on_ok_weaker c.set_line-4.result
    (λ (out : c.set_line-4.new.trunk ≡ slice_set c.set_line-3.new.trunk (index_of_line call Out) (new_line c.new-2.result.items [] [] (160 * periods))).
    one_more_set seed call periods c.args.trunk.now c.set_line-4.new.trunk c.requires.low c.requires.high (record {
      up = c.set_line.new.trunk;
      pcm = c.set_line-2.new.trunk;
      down = c.set_line-3.new.trunk;
      set_up = first ∙ ap (λ (xs : List ℕ). slice_set c.args.trunk.now (index_of_line call Up) (new_line xs [] [] 1)) c.in_ok-up.ensures.up;
      set_pcm = second ∙ ap (λ (xs : List ℕ). slice_set c.set_line.new.trunk (index_of_line call Pcm) (new_line xs [] [] 1)) c.in_ok-up.ensures.pcm;
      set_down = third ∙ ap (λ (xs : List ℕ). slice_set c.set_line-2.new.trunk (index_of_line call Down) (new_line xs [] [] (40 * periods))) c.new.ensures.items;
      set_out = out ∙ ap (λ (xs : List ℕ). slice_set c.set_line-3.new.trunk (index_of_line call Out) (new_line xs [] [] (160 * periods))) c.new-2.ensures.items;
    }))
    c.set_line-4.ensures
