use Rattle.std.proofs.Common.{◌≡◌, ◌+◌, ◌<◌, ap, sym, ◌∙◌, List, [], ◌∷◌, ◌++◌, length, map, take, suc, ℕ, None, arith}
use Rattle.std.proofs.Math.Seq.{take-suc}
use Rattle.std.proofs.lemmas.List.{map-append, get_or-map, length-map}
use Rattle.rx_handler.specs.declared.effective.Effective.{Effective}
use Rattle.rx_handler.specs.Origin.{EffectiveFields, Quiet}
use Rattle.rx_handler.specs.State.{effective_fields}
use Rattle.call_leg.specs.Halves.{Note}
use Rattle.call_pair.specs.Phases.{frames_in}
use Rattle.call_pair.proofs.call_job.CallJob.write_frames.Goals as goal

pub loop-k-preserved : goal.loop-k-preserved
loop-k-preserved c =
    let notes = c.args.self.now.notes in
    let k = c.loop-k.k in
    let next : suc k ≡ k + 1 = omega arith in
    let l : k < length notes = omega (arith, c.loop-k-test.true, c.requires.told) in
    let front : take (k + 1) (frames_in notes) ≡ take k (frames_in notes) ++ effective_fields c.frame.result ∷ [] =
    ap (λ (n : ℕ). take n (frames_in notes)) (sym next) ∙ take-suc (frames_in notes) k Quiet (omega (arith, l, length-map notes (λ (n : Note). n.eff)))
    ∙ ap (λ (e : EffectiveFields). take k (frames_in notes) ++ e ∷ []) (get_or-map (λ (n : Note). n.eff) notes k (record { eff = Quiet; ask = 0; dtx = None })
    Quiet l ∙ sym c.frame.ensures) in
    record {
      written = ap (λ (es : List Effective). map effective_fields es) c.push_reserved.ensures.items ∙ map-append effective_fields c.loop-k.frames.items
          (c.frame.result ∷ [])
          ∙ ap (λ (es : List EffectiveFields). es ++ effective_fields c.frame.result ∷ []) c.loop-k.invariant.written ∙ sym front;
      number = omega (arith, c.push_reserved.ensures.len, c.loop-k.invariant.number);
      capacity = c.push_reserved.ensures.capacity ∙ c.loop-k.invariant.capacity;
    }
