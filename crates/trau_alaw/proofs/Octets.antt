-- The octets of A-law, and the one whose interval holds a value.
use Rattle.std.proofs.Common.{◌≡◌, ℕ, ◌+◌, ◌/◌, ◌%◌, ◌<◌, ◌≤◌, true, nat_eq, nat_le, bit_xor, ℤ, pos, ◌<ℤ◌, ◌≤ℤ◌, refl, arith}
use Rattle.std.specs.List.{list_all, range_with_len}
use Rattle.std.proofs.lemmas.Bool.{eqb-true}
use Rattle.trau_alaw.specs.Companding.{Companding, magnitude, contains, middle, octet_of, IsOnlyOctet, PartsWords}
use Rattle.trau_alaw.specs.Alaw.{alaw, alaw_least, alaw_width}
use Rattle.trau_alaw.proofs.Segments.{IsAt}
use Rattle.trau_alaw.proofs.Laid.{entry, IsLaid}
use Rattle.trau_alaw.proofs.Laid as laid

-- the least magnitude of the interval with that number, segment and step as one number of seven bits
abbrev pub start : ℕ → ℕ
start n = alaw_least (n / 16) (n % 16)

-- tables over all 256 octets, and over the 128 indices of their order
back_table : list_all (λ n. nat_eq (bit_xor (bit_xor n 85) 85) n) (range_with_len 0 256) ≡ true
back_table = refl

least_table : list_all (λ n. nat_eq (alaw n).least (start (bit_xor n 85 % 128))) (range_with_len 0 256) ≡ true
unfolding alaw
least_table = refl

stop_table : list_all (λ n. nat_eq ((alaw n).least + (alaw n).width) (start (bit_xor n 85 % 128 + 1))) (range_with_len 0 256) ≡ true
unfolding alaw
stop_table = refl

rising_table : list_all (λ n. nat_eq (start (n + 1)) (start n + alaw_width (n / 16))) (range_with_len 0 128) ≡ true
rising_table = refl

start-next : (n : ℕ) → n < 128 → start (n + 1) ≡ start n + alaw_width (n / 16)
start-next n h = eqb-true _ _ (entry (λ n. nat_eq (start (n + 1)) (start n + alaw_width (n / 16))) 128 n rising_table h)

is_positive-is : (octet : ℕ) → (alaw octet).is_positive ≡ nat_le 128 (bit_xor octet 85)
unfolding alaw
is_positive-is octet = refl

pub alaw_laid : IsLaid alaw 85 start
alaw_laid = record {
  small = omega arith;
  back = λ n h. eqb-true _ _ (entry (λ n. nat_eq (bit_xor (bit_xor n 85) 85) n) 256 n back_table h);
  sign = λ n h. is_positive-is n;
  least = λ n h. eqb-true _ _ (entry (λ n. nat_eq (alaw n).least (start (bit_xor n 85 % 128))) 256 n least_table h);
  stop = λ n h. eqb-true _ _ (entry (λ n. nat_eq ((alaw n).least + (alaw n).width) (start (bit_xor n 85 % 128 + 1))) 256 n stop_table h);
  rising = λ n h. omega (arith, start-next n h);
  first = refl;
  last = refl;
}

pub only_octet : (x : ℤ) (code : ℕ) → code < 256 → IsAt (code % 128 / 16) (code % 128 % 16) (magnitude x) →
    (x <ℤ pos 0 → code < 128) → (pos 0 ≤ℤ x → 128 ≤ code) → IsOnlyOctet alaw x (bit_xor code 85)
only_octet x code h a low high =
    let l = a.at_least in
    let w = a.within in
    let next = start-next (code % 128) (omega arith) in
    laid.only_octet alaw 85 start alaw_laid x code h (record { at_least = l; within = omega arith }) low high

-- each octet holds the middle of its own interval
middle_table : list_all (λ octet. contains (alaw octet) (middle (alaw octet))) (range_with_len 0 256) ≡ true
unfolding alaw
middle_table = refl

-- the middle of an octet's interval lies in it
pub holds-middle : (octet : ℕ) → octet < 256 → contains (alaw octet) (middle (alaw octet)) ≡ true
holds-middle octet h = entry (λ octet. contains (alaw octet) (middle (alaw octet))) 256 octet middle_table h

pub octet_of-only : (law : Companding) (x : ℤ) (octet : ℕ) → IsOnlyOctet law x octet → octet ≡ octet_of law x
octet_of-only = laid.octet_of-only

pub parts : PartsWords alaw
parts = laid.parts alaw 85 start alaw_laid
