-- For crates above: what a framer holds after it put, framed or took a period (`put-holds`, `frame-holds`,
-- `take-holds`).
use Rattle.std.proofs.Common.{◌≡◌, sym, ap, ◌∙◌, ℕ, ◌+◌, ◌-◌, ◌≤◌, ℤ, List, ◌++◌, length, drop, arith, length-append, length-drop}
use Rattle.std.proofs.lemmas.List.{drop-drop, drop-append-le}
use Rattle.down_framer.specs.Made.{octets_to_next, frame_on_line}
use Rattle.down_framer.specs.Memory.{FramerMemory}
use Rattle.down_framer.specs.Step.{after_put, after_frame, after_take}
use Rattle.down_framer.specs.Stands.{Holds}
use Rattle.down_framer.proofs.Lists.{drop-append}

-- of a line that goes on, what a framer holds after a period was put
pub put-holds : (s : FramerMemory) (octets pcm line : List ℕ) (out start : ℕ) → length octets ≡ 160 → Holds pcm line out start s →
    Holds (pcm ++ octets) line out start (after_put s octets)
put-holds s octets pcm line out start l h =
    let held = h.held in
    let skip = h.to_skip in
    let n = length-append pcm octets in
    record {
      held = ap (λ z. z ++ drop s.to_skip octets) held ∙ ap (λ k. drop start pcm ++ drop k octets) skip ∙ sym (drop-append start pcm octets);
      to_skip = omega arith;
      stored = h.stored;
    }

-- and after a frame, with a downlink that goes on by it
pub frame-holds : (s : FramerMemory) (f : List ℕ) (shift : ℤ) (pcm line : List ℕ) (out start : ℕ) → 160 ≤ length s.held → out ≤ length line →
    Holds pcm line out start s →
    Holds pcm (line ++ frame_on_line shift f) out (start + octets_to_next shift) (after_frame s f shift)
frame-holds s f shift pcm line out start r l h =
    let n : length s.held ≡ length pcm - start = ap length h.held ∙ length-drop start pcm in
    record {
      held = ap (drop (octets_to_next shift)) h.held ∙ drop-drop (octets_to_next shift) start pcm;
      to_skip = omega arith;
      stored = ap (λ z. z ++ frame_on_line shift f) h.stored ∙ sym (drop-append-le out line (frame_on_line shift f) l);
    }

-- and after a period is out
pub take-holds : (s : FramerMemory) (pcm line : List ℕ) (out start : ℕ) → Holds pcm line out start s → Holds pcm line (out + 320) start (after_take s)
take-holds s pcm line out start h = record {
  held = h.held;
  to_skip = h.to_skip;
  stored = ap (drop 320) h.stored ∙ drop-drop 320 out line;
}
