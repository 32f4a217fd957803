-- The steps of the eight segments of A-law, computed.
use Rattle.std.proofs.Common.{◌≡◌, ℕ, ◌+◌, ◌-◌, ◌*◌, ◌/◌, ◌%◌, ◌^◌, ◌<◌, ◌≤◌, zero, suc, min, inl, inr, arith}
use Rattle.std.proofs.lemmas.Bool.{cases_lt}
use Rattle.trau_alaw.specs.Alaw.{alaw_least, alaw_width}

-- what holds at each of 0 to 7
pub of_eight : (P : ℕ → Type 0) → P 0 → P 1 → P 2 → P 3 → P 4 → P 5 → P 6 → P 7 → (n : ℕ) → n < 8 → P n
of_eight P p0 p1 p2 p3 p4 p5 p6 p7 zero l = p0
of_eight P p0 p1 p2 p3 p4 p5 p6 p7 (suc zero) l = p1
of_eight P p0 p1 p2 p3 p4 p5 p6 p7 (suc (suc zero)) l = p2
of_eight P p0 p1 p2 p3 p4 p5 p6 p7 (suc (suc (suc zero))) l = p3
of_eight P p0 p1 p2 p3 p4 p5 p6 p7 (suc (suc (suc (suc zero)))) l = p4
of_eight P p0 p1 p2 p3 p4 p5 p6 p7 (suc (suc (suc (suc (suc zero))))) l = p5
of_eight P p0 p1 p2 p3 p4 p5 p6 p7 (suc (suc (suc (suc (suc (suc zero)))))) l = p6
of_eight P p0 p1 p2 p3 p4 p5 p6 p7 (suc (suc (suc (suc (suc (suc (suc zero))))))) l = p7
of_eight P p0 p1 p2 p3 p4 p5 p6 p7 (suc (suc (suc (suc (suc (suc (suc (suc n)))))))) l = absurd (omega arith)

-- the middle of a step, as the code shifts it together
abbrev IsMiddle : ℕ → ℕ → Type 0
IsMiddle step segment =
    0 < segment → (2 * step + 1 + 32) * 2 ^ (segment + 2) % 65536 ≡ alaw_least segment step + alaw_width segment / 2

-- how the code makes the middle of a step
pub shifted_middle : (segment step : ℕ) → segment < 8 → step < 16 → 0 < segment →
    (2 * step + 1 + 32) * 2 ^ (segment + 2) % 65536 ≡ alaw_least segment step + alaw_width segment / 2
shifted_middle segment step l m p =
    of_eight (IsMiddle step)
    (λ q. absurd (omega arith)) (λ q. omega arith) (λ q. omega arith) (λ q. omega arith)
    (λ q. omega arith) (λ q. omega arith) (λ q. omega arith) (λ q. omega arith) segment l p

-- in the first segment
abbrev IsSmall : ℕ → ℕ → Type 0
IsSmall step segment = alaw_least segment step + alaw_width segment / 2 < 32768

-- the middle of a step fits 15 bits
pub middle_below : (segment step : ℕ) → segment < 8 → step < 16 → alaw_least segment step + alaw_width segment / 2 < 32768
middle_below segment step l m =
    of_eight (IsSmall step)
    (omega arith) (omega arith) (omega arith) (omega arith) (omega arith) (omega arith) (omega arith) (omega arith) segment l

-- a magnitude is one of that step of that segment
pub record IsAt (segment step magnitude : ℕ) : Type 0 where
  pub at_least : alaw_least segment step ≤ magnitude
  pub within : magnitude < alaw_least segment step + alaw_width segment

-- a magnitude within a step's interval is at the step
at_place : (number segment step magnitude : ℕ) → number / 16 ≡ segment → number % 16 ≡ step →
    alaw_least segment step ≤ magnitude → magnitude < alaw_least segment step + alaw_width segment →
    IsAt (number / 16) (number % 16) magnitude
at_place number segment step magnitude e f l u = rw (e, f) (record { at_least = l; within = u })

-- the least of the seven lines at a magnitude, as the code takes it
pub record IsLeast (m v : ℕ) : Type 0 where
  pub low : ℕ
  pub middle : ℕ
  pub high : ℕ
  pub low_is : low ≡ min (m / 16) (m / 32 + 16)
  pub middle_is : middle ≡ min (m / 64 + 32) (m / 128 + 48)
  pub high_is : high ≡ min (m / 256 + 64) (m / 512 + 80)
  pub is : v ≡ min (min (min low middle) high) (m / 1024 + 96)

-- in each segment it is that segment's own
pub found : (m v : ℕ) → m < 32768 → IsLeast m v → IsAt (v / 16) (v % 16) m
found m v b l =
    let a = l.low_is in
    let c = l.middle_is in
    let d = l.high_is in
    let is = l.is in
    elim (cases_lt m 256) [
      | inl h ↦ let e : v ≡ m / 16 = omega arith in at_place v 0 (m / 16) m (omega arith) (omega arith) (omega arith) (omega arith)
      | inr g ↦ elim (cases_lt m 512) [
        | inl h ↦ let e : v ≡ m / 16 = omega arith in at_place v 1 (m / 16 - 16) m (omega arith) (omega arith) (omega arith) (omega arith)
        | inr g ↦ elim (cases_lt m 1024) [
          | inl h ↦ let e : v ≡ m / 32 + 16 = omega arith in at_place v 2 (m / 32 - 16) m (omega arith) (omega arith) (omega arith) (omega arith)
          | inr g ↦ elim (cases_lt m 2048) [
            | inl h ↦ let e : v ≡ m / 64 + 32 = omega arith in at_place v 3 (m / 64 - 16) m (omega arith) (omega arith) (omega arith) (omega arith)
            | inr g ↦ elim (cases_lt m 4096) [
              | inl h ↦ let e : v ≡ m / 128 + 48 = omega arith in at_place v 4 (m / 128 - 16) m (omega arith) (omega arith) (omega arith) (omega arith)
              | inr g ↦ elim (cases_lt m 8192) [
                | inl h ↦ let e : v ≡ m / 256 + 64 = omega arith in at_place v 5 (m / 256 - 16) m (omega arith) (omega arith) (omega arith) (omega arith)
                | inr g ↦ elim (cases_lt m 16384) [
                  | inl h ↦ let e : v ≡ m / 512 + 80 = omega arith in at_place v 6 (m / 512 - 16) m (omega arith) (omega arith) (omega arith) (omega arith)
                  | inr g ↦ let e : v ≡ m / 1024 + 96 = omega arith in at_place v 7 (m / 1024 - 16) m (omega arith) (omega arith) (omega arith) (omega arith)
                ]
              ]
            ]
          ]
        ]
      ]
    ]
