-- The steps of the eight segments of mu-law, computed.
use Rattle.std.proofs.Common.{◌≡◌, ℕ, ◌+◌, ◌-◌, ◌*◌, ◌/◌, ◌%◌, ◌^◌, ◌<◌, ◌≤◌, min, false, inl, inr, arith}
use Rattle.std.specs.Prelude.{◌==◌}
use Rattle.std.proofs.lemmas.Bool.{cases_lt}
use Rattle.std.proofs.Math.Nat.{pow-le-pow_right}
use Rattle.trau_alaw.specs.Mulaw.{mulaw_least, mulaw_end, mulaw_centre}
use Rattle.trau_alaw.proofs.Segments.{of_eight}

-- the centre of a step, as the code shifts it together
abbrev IsCentre : ℕ → ℕ → Type 0
IsCentre step segment = (132 ≤ (2 * step + 33) * 2 ^ (segment + 2)) × ((2 * step + 33) * 2 ^ (segment + 2) < 65536)
    × ((2 * step + 33) * 2 ^ (segment + 2) - 132 ≡ mulaw_centre segment step) × (mulaw_centre segment step < 32768)

-- how the code makes the middle of a step
pub shifted_centre : (segment step : ℕ) → segment < 8 → step < 16 → IsCentre step segment
shifted_centre segment step l m =
    of_eight (IsCentre step)
    (omega arith, omega arith, omega arith, omega arith) (omega arith, omega arith, omega arith, omega arith)
    (omega arith, omega arith, omega arith, omega arith) (omega arith, omega arith, omega arith, omega arith)
    (omega arith, omega arith, omega arith, omega arith) (omega arith, omega arith, omega arith, omega arith)
    (omega arith, omega arith, omega arith, omega arith) (omega arith, omega arith, omega arith, omega arith) segment l

-- a magnitude is one of that step of that segment
pub record IsAtMu (segment step magnitude : ℕ) : Type 0 where
  pub at_least : mulaw_least segment step ≤ magnitude
  pub within : magnitude < mulaw_end segment step

-- the step that the code finds
pub record IsFound (magnitude number : ℕ) : Type 0 where
  pub small : number < 128
  pub at : IsAtMu (number / 16) (number % 16) magnitude

-- a magnitude within a step's interval is at the step
at_place : (number segment step magnitude : ℕ) → number / 16 ≡ segment → number % 16 ≡ step → number < 128 →
    mulaw_least segment step ≤ magnitude → magnitude < mulaw_end segment step → IsFound magnitude number
at_place number segment step magnitude e f s l u = record { small = s; at = rw (e, f) (record { at_least = l; within = u }) }

-- a segment is found from the magnitude raised
abbrev Finds : ℕ → ℕ → Type 0
Finds magnitude segment =
    2 ^ (segment + 7) ≤ min magnitude 32635 + 132 → min magnitude 32635 + 132 < 2 * 2 ^ (segment + 7) →
    (quarter : ℕ) → quarter ≡ (min magnitude 32635 + 132) / 2 ^ (segment + 3) → (16 ≤ quarter) × IsFound magnitude (16 * segment + quarter - 16)

-- in the last two segments
last_two : (magnitude quarter : ℕ) → magnitude < 32768 → 16384 ≤ min magnitude 32635 + 132 → quarter ≡ (min magnitude 32635 + 132) / 1024 →
    IsFound magnitude (16 * 7 + quarter - 16)
last_two magnitude quarter m l e =
    elim (cases_lt quarter 31) [
      | inl h ↦
          let off : (quarter - 16 == 15) ≡ false = grind arith in
          at_place (16 * 7 + quarter - 16) 7 (quarter - 16) magnitude (omega arith) (omega arith) (omega arith) (omega arith) (rw off (omega arith))
      | inr h ↦ at_place (16 * 7 + quarter - 16) 7 15 magnitude (omega arith) (omega arith) (omega arith) (omega arith) (omega arith)
    ]

-- in each segment
pub found : (magnitude segment : ℕ) → magnitude < 32768 → segment < 8 → Finds magnitude segment
found magnitude segment m l =
    of_eight (Finds magnitude)
    (λ p q n e. (omega arith, at_place (16 * 0 + n - 16) 0 (n - 16) magnitude (omega arith) (omega arith) (omega arith) (omega arith) (omega arith)))
    (λ p q n e. (omega arith, at_place (16 * 1 + n - 16) 1 (n - 16) magnitude (omega arith) (omega arith) (omega arith) (omega arith) (omega arith)))
    (λ p q n e. (omega arith, at_place (16 * 2 + n - 16) 2 (n - 16) magnitude (omega arith) (omega arith) (omega arith) (omega arith) (omega arith)))
    (λ p q n e. (omega arith, at_place (16 * 3 + n - 16) 3 (n - 16) magnitude (omega arith) (omega arith) (omega arith) (omega arith) (omega arith)))
    (λ p q n e. (omega arith, at_place (16 * 4 + n - 16) 4 (n - 16) magnitude (omega arith) (omega arith) (omega arith) (omega arith) (omega arith)))
    (λ p q n e. (omega arith, at_place (16 * 5 + n - 16) 5 (n - 16) magnitude (omega arith) (omega arith) (omega arith) (omega arith) (omega arith)))
    (λ p q n e. (omega arith, at_place (16 * 6 + n - 16) 6 (n - 16) magnitude (omega arith) (omega arith) (omega arith) (omega arith) (omega arith)))
    (λ p q n e. (omega arith, last_two magnitude n m (omega arith) (omega arith)))
    segment l

-- the highest bit of a raised magnitude
pub power_within : (raised power : ℕ) → 132 ≤ raised → raised < 32768 → 2 ^ power ≤ raised → raised < 2 * 2 ^ power → (7 ≤ power) × (power < 15)
power_within raised power a b l u =
    let low : power ≤ 6 → 2 ^ power ≤ 2 ^ 6 = λ h. pow-le-pow_right (omega arith) h in
    let high : 15 ≤ power → 2 ^ 15 ≤ 2 ^ power = λ h. pow-le-pow_right (omega arith) h in
    (grind (arith, low), grind (arith, high))

-- by the highest power of two in the raised magnitude
pub found_from_power : (magnitude raised power quarter : ℕ) → magnitude < 32768 → raised ≡ min magnitude 32635 + 132 →
    2 ^ power ≤ raised → raised < 2 * 2 ^ power → quarter ≡ raised / 2 ^ (power - 7 + 3) →
    (7 ≤ power) × (16 ≤ quarter) × IsFound magnitude (16 * (power - 7) + quarter - 16)
found_from_power magnitude raised power quarter m t l u e =
    let w = power_within raised power (omega arith) (omega arith) l u in
    let from = w.0 in
    let to = w.1 in
    let same : power - 7 + 7 ≡ power = omega arith in
    let f = found magnitude (power - 7) m (omega arith) (rw same (omega arith)) (rw same (omega arith)) quarter (rw (← t) e) in
    (from, f.0, f.1)
