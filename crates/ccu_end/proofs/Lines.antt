-- For crates above: all frames that a prefix of a downlink has whole are found, and no others (`made-found`).
-- A downlink as far as it is made: its frames stand apart, and every bit beside them is one.
use Rattle.std.proofs.Common.{◌≡◌, ℕ, ◌+◌, ◌-◌, ◌*◌, ◌≤◌, ◌<◌, ℤ, pos, negsuc, Some, List, [], ◌∷◌, ◌++◌, length, take, replicate, get_or, sym, ap, ◌∙◌, inl}
use Rattle.std.proofs.Common.{inr, arith, length-append, length-take}
use Rattle.std.proofs.lemmas.Bool.{cases_lt}
use Rattle.std.proofs.Math.ListN.{get_or-append}
use Rattle.std.proofs.lemmas.List.{get_or-take, get_or-replicate, get_or-append_right, length-replicate}
use Rattle.time_align.specs.Shift.{IsShift}
use Rattle.trau_frame.specs.declared.frames.DownFrame.{DownFrame}
use Rattle.trau_frame.specs.DownFrame.{down_bits}
use Rattle.trau_frame.proofs.Again.{length-down_bits}
use Rattle.down_framer.specs.Made.{Period, MadeFrame, octets_to_next, next_start, made_frames, frame_on_line}
use Rattle.down_framer.proofs.Timing.{octets_of-bounds}
use Rattle.down_framer.proofs.Store.{AreInTurn, AreInTurn-made_frames, length-line_of, length-frame_on_line}
use Rattle.ccu_end.specs.Read.{down_frame_in}
use Rattle.ccu_end.specs.Found.{FoundFrame, Found, downlink, place_of, as_made, all_within, HaveLength}
use Rattle.ccu_end.proofs.Reading.{IsFrame, down_bits-frame, written_read}
use Rattle.ccu_end.proofs.Searching.{IsAt, AreAt, AreApart, IsInside, all-found}

-- ---- one frame more at the end

-- one frame more behind frames that lie apart
apart-more : (low high more : ℕ) (f : FoundFrame) (fs : List FoundFrame) → AreApart low fs high → high ≤ f.place → f.place + 316 ≤ more →
    AreApart low (fs ++ f ∷ []) more
apart-more low high more f [] a h l = (omega arith, l)
apart-more low high more f (g ∷ fs) a h l = (a.0, apart-more (g.place + 316) high more f fs a.1 h l)

-- a frame stays where it stands when bits come behind it
at-more : (line more : List ℕ) (f : FoundFrame) → IsAt line f → IsAt (line ++ more) f
at-more line more f a =
    let room = a.room in
    let long = length-append line more in
    record {
      bits = a.bits;
      whole = a.whole;
      room = omega arith;
      same = λ i l. get_or-append line more 0 (f.place + i) (omega arith) ∙ a.same i l;
      says = a.says;
    }

-- so do all, and one more
are_at-more : (line more : List ℕ) (f : FoundFrame) (fs : List FoundFrame) → AreAt line fs → IsAt (line ++ more) f → AreAt (line ++ more) (fs ++ f ∷ [])
are_at-more line more f [] a h = (h, tt)
are_at-more line more f (g ∷ fs) a h = (at-more line more g a.0, are_at-more line more f fs a.1 h)

-- a place inside a frame, among one more
inside-before : (f : FoundFrame) (q : ℕ) (fs : List FoundFrame) → IsInside fs q → IsInside (fs ++ f ∷ []) q
inside-before f q [] i = absurd i
inside-before f q (g ∷ fs) i = elim i [
  | inl here ↦ inl here
  | inr later ↦ inr (inside-before f q fs later)
]

inside-last : (f : FoundFrame) (q : ℕ) (fs : List FoundFrame) → f.place ≤ q → q < f.place + 316 → IsInside (fs ++ f ∷ []) q
inside-last f q [] a b = inl (a, b)
inside-last f q (g ∷ fs) a b = inr (inside-last f q fs a b)

-- ---- what a frame puts on the line

-- the first bits on the line are those of the frame
first-bits : (v : ℤ) (bits : List ℕ) (i : ℕ) → length bits ≡ 320 → i < 316 → get_or (frame_on_line v bits) i 0 ≡ get_or bits i 0
first-bits (pos v) bits i l h = get_or-append bits (replicate (2 * v) 1) 0 i (omega arith)
first-bits (negsuc v) bits i l h = get_or-take 316 bits i 0 h

-- a bit of ones
ones_only : (n i : ℕ) → i < n → get_or (replicate {A = ℕ} n 1) i 0 ≡ 1
ones_only n i h = get_or-replicate n i 1 0 h

-- a zero is one of the first 316 bits
zero-bits : (v : ℤ) (bits : List ℕ) (i : ℕ) → IsFrame bits → i < length (frame_on_line v bits) → get_or (frame_on_line v bits) i 0 ≡ 0 → i < 316
zero-bits (pos v) bits i f h z =
    let count = f.count in
    let long = length-append bits (replicate (2 * v) 1) in
    let ones = length-replicate {A = ℕ} (2 * v) 1 in
    elim (cases_lt i 320) [
      | inl within ↦ elim (cases_lt i 316) [
        | inl first ↦ first
        | inr time ↦
            let one = sym (get_or-append bits (replicate (2 * v) 1) 0 i (omega arith)) ∙ z in
            let t = f.time i time within in
            absurd (omega arith)
      ]
      | inr past ↦
          let one = sym (get_or-append_right bits (replicate (2 * v) 1) 320 i 0 count past) ∙ z in
          let t = ones_only (2 * v) (i - 320) (omega arith) in
          absurd (omega arith)
    ]
zero-bits (negsuc v) bits i f h z = let long = length-take 316 bits in omega arith

-- ---- all of the line

pub record IsLine (line : List ℕ) (fs : List FoundFrame) (end : ℕ) : Type 0 where
  pub apart : AreApart 0 fs end
  pub at : AreAt line fs
  pub zeros : (q : ℕ) → q < length line → get_or line q 0 ≡ 0 → IsInside fs q

-- a line before its first frame
pub line-first : IsLine (replicate 320 1) [] 320
line-first = record {
  apart = omega arith;
  at = tt;
  zeros = λ q h z.
      let long = length-replicate {A = ℕ} 320 1 in
      let one = ones_only 320 q (omega arith) in
      absurd (omega arith);
}

-- one frame more on the line
pub line-more : (line : List ℕ) (fs : List FoundFrame) (end more : ℕ) (v : ℤ) (bits : List ℕ) (f : FoundFrame) → IsLine line fs end → length line ≡ end →
    f.place ≡ end →
    IsFrame bits → IsShift v → more ≡ end + 2 * octets_to_next v → f.frame ≡ down_frame_in bits → IsLine (line ++ frame_on_line v bits) (fs ++ f ∷ []) more
line-more line fs end more v bits f h long place whole shift next says =
    let bounds = octets_of-bounds v shift in
    let least = bounds.0 in
    let put = length-frame_on_line v bits shift whole.count in
    let all = length-append line (frame_on_line v bits) in
    let low : end ≤ f.place = omega arith in
    let high : f.place + 316 ≤ more = omega arith in
    let here : IsAt (line ++ frame_on_line v bits) f = record {
      bits = bits;
      whole = whole;
      room = omega arith;
      same = λ i l.
          let index : f.place + i - end ≡ i = omega arith in
          get_or-append_right line (frame_on_line v bits) end (f.place + i) 0 long (omega arith) ∙
          ap (λ k. get_or (frame_on_line v bits) k 0) index ∙ first-bits v bits i whole.count l;
      says = says;
    } in
    record {
      apart = apart-more 0 end more f fs h.apart low high;
      at = are_at-more line (frame_on_line v bits) f fs h.at here;
      zeros = λ q l z. elim (cases_lt q end) [
        | inl before ↦
            let b : q < length line = omega arith in
            inside-before f q fs (h.zeros q b (sym (get_or-append line (frame_on_line v bits) 0 q b) ∙ z))
        | inr past ↦
            let i = zero-bits v bits (q - end) whole (omega arith) (sym (get_or-append_right line (frame_on_line v bits) end q 0 long past) ∙ z) in
            inside-last f q fs (omega arith) (omega arith)
      ];
    }

-- what a framer makes is such a line
pub downlink-line : {A : Type 0} (frame : List (MadeFrame A) → DownFrame) (fs : List (MadeFrame A)) → HaveLength frame fs → AreInTurn fs →
    IsLine (downlink frame fs) (as_made frame fs) (320 + 2 * next_start fs)
downlink-line frame [] h t = line-first
downlink-line frame (f ∷ fs) h t =
    let start : f.start ≡ next_start fs = t.0 in
    line-more (downlink frame fs) (as_made frame fs) (320 + 2 * next_start fs) (320 + 2 * next_start (f ∷ fs)) f.shift (down_bits (frame (f ∷ fs)))
    (record { place = place_of f; frame = Some (frame (f ∷ fs)) })
    (downlink-line frame fs h.1 t.2)
    (length-line_of (λ gs. down_bits (frame gs)) (λ gs. length-down_bits (frame gs)) fs t.2)
    (omega arith) (down_bits-frame (frame (f ∷ fs))) t.1 (omega arith) (sym (written_read (frame (f ∷ fs)) h.0))

-- so its frames are found
pub made-found : {A : Type 0} (frame : List (MadeFrame A) → DownFrame) (ps : List (Period A)) (n : ℕ) → HaveLength frame (made_frames ps) →
    Found (take n (downlink frame (made_frames ps))) (all_within n (as_made frame (made_frames ps)))
made-found frame ps n h =
    let l = downlink-line frame (made_frames ps) h (AreInTurn-made_frames ps) in
    all-found (downlink frame (made_frames ps)) n 0 (320 + 2 * next_start (made_frames ps)) (as_made frame (made_frames ps)) l.apart l.at
    (λ q low z. let t = z.there in l.zeros q (omega arith) z.zero_bit)
