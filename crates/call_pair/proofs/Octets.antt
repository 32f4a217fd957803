-- For crates above: how many octets k periods have on Down and on Out (`length-downs_of`, `length-outs_of`).
-- The octets of a place more.
use Rattle.std.proofs.Common.{◌≡◌, ℕ, zero, suc, ◌+◌, ◌*◌, ◌≤◌, List, [], ◌∷◌, ◌++◌, length, drop, refl, sym, ap, ◌∙◌, arith}
use Rattle.std.proofs.lemmas.List.{length-append, take_at, drop_at, drop-drop}
use Rattle.trau_bits.specs.Bits.{octets_of}
use Rattle.call_leg.specs.Who.{Who}
use Rattle.call_leg.specs.Periods.{CallPeriod}
use Rattle.call_leg.specs.Out.{out_of}
use Rattle.call_leg.specs.Down.{down_now}
use Rattle.call_pair.specs.Memory.{IoMemory}
use Rattle.call_pair.specs.Periods.{buffer_with, with_out, with_period}
use Rattle.call_pair.specs.History.{Start, who_of, outs_of, downs_of, io_after}
use Rattle.call_leg.proofs.LineLaws.{length-out_of}
use Rattle.call_pair.proofs.Lengths.{length-down_octets}

-- octets written behind those at the front
pub written-seam : (front buffer octets : List ℕ) (start n : ℕ) → length front ≡ start → length octets ≡ n →
    buffer_with (front ++ drop start buffer) start octets ≡ (front ++ octets) ++ drop (start + n) buffer
written-seam front buffer octets start n e f =
    let xs = front ++ drop start buffer in
    let rest : drop (start + length octets) xs ≡ drop (start + n) buffer =
    sym (drop-drop (length octets) start xs) ∙ ap (drop (length octets)) (drop_at front (drop start buffer) start e) ∙ drop-drop (length octets) start buffer
    ∙ ap (λ (m : ℕ). drop (start + m) buffer) f in
    ap (λ (ys : List ℕ). ys ++ octets ++ drop (start + length octets) xs) (take_at front (drop start buffer) start e) ∙
    ap (λ (ys : List ℕ). front ++ octets ++ ys) rest

pub length-outs_of : (who : Who) (k : ℕ) (ts : List CallPeriod) → k ≤ length ts → length (outs_of who k ts) ≡ 160 * k
length-outs_of who zero ts h = refl
length-outs_of who (suc k) [] h = absurd (omega arith)
length-outs_of who (suc k) (t ∷ past) h =
    omega (arith, length-append (outs_of who k past) (out_of who (t ∷ past)), length-outs_of who k past (omega arith), length-out_of who (t ∷ past))

pub length-downs_of : (who : Who) (k : ℕ) (ts : List CallPeriod) → k ≤ length ts → length (downs_of who k ts) ≡ 40 * k
length-downs_of who zero ts h = refl
length-downs_of who (suc k) [] h = absurd (omega arith)
length-downs_of who (suc k) (t ∷ past) h =
    omega (
      arith,
      length-append (downs_of who k past) (octets_of (down_now who (t ∷ past))),
      length-downs_of who k past (omega arith),
      length-down_octets who t
          past,
    )

-- the octets of a place more are those of the call's newest period
pub io_more : (s : Start) (k : ℕ) (ts : List CallPeriod) (t : CallPeriod) (out down : List ℕ) → k ≤ length ts → out ≡ out_of (who_of s) (t ∷ ts) →
    down ≡ down_now (who_of s) (t ∷ ts) → with_period (with_out (io_after (who_of s) k ts s.io) out) (octets_of down)
    ≡ io_after (who_of s) (suc k) (t ∷ ts) s.io
io_more s k ts t out down enough e f =
    let who = who_of s in
    let io = io_after (who_of s) k ts s.io in
    let next : k + 1 ≡ suc k = omega arith in
    let heard = out_of who (t ∷ ts) in
    let said = octets_of (down_now who (t ∷ ts)) in
    let shape : List ℕ → List ℕ → ℕ → IoMemory = λ x y n.
    record { call = s.io.call; up = s.io.up; pcm = s.io.pcm; out = x; down = y; given = s.io.given; done = n } in
    let end : 160 * k + 160 ≡ 160 * suc k = omega arith in
    let end' : 40 * k + 40 ≡ 40 * suc k = omega arith in
    let outs = written-seam (outs_of who k ts) s.io.out heard (160 * k) 160 (length-outs_of who k ts enough) (length-out_of who (t ∷ ts))
    ∙ ap (λ (m : ℕ). (outs_of who k ts ++ heard) ++ drop m s.io.out) end in
    let downs = written-seam (downs_of who k ts) s.io.down said (40 * k) 40 (length-downs_of who k ts enough) (length-down_octets who t ts)
    ∙ ap (λ (m : ℕ). (downs_of who k ts ++ said) ++ drop m s.io.down) end' in
    ap (λ (x : List ℕ). with_period (with_out io x) (octets_of down)) e ∙
    ap (λ (x : List ℕ). with_period (with_out io heard) (octets_of x)) f ∙
    ap (λ (x : List ℕ). shape x (buffer_with io.down (40 * k) said) (k + 1)) outs ∙
    ap (λ (y : List ℕ). shape (outs_of who (suc k) (t ∷ ts) ++ drop (160 * suc k) s.io.out) y (k + 1)) downs ∙
    ap (λ (n : ℕ). record (io_after (who_of s) (suc k) (t ∷ ts) s.io) { done = n }) next
