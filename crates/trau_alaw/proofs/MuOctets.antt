-- The octets of mu-law, and the one whose interval holds a value.
use Rattle.std.proofs.Common.{◌≡◌, ℕ, ◌+◌, ◌/◌, ◌%◌, ◌<◌, ◌≤◌, Bool, true, false, nat_eq, nat_le, nat_lt, if◌then◌else◌, bit_xor, ℤ, pos, ◌<ℤ◌, ◌≤ℤ◌, refl}
use Rattle.std.proofs.Common.{arith}
use Rattle.std.specs.Prelude.{◌==◌, ◌||◌}
use Rattle.std.specs.List.{list_all, range_with_len}
use Rattle.std.proofs.lemmas.Bool.{eqb-true, leb-true}
use Rattle.trau_alaw.specs.Companding.{magnitude, contains, middle, IsOnlyOctet, PartsWords}
use Rattle.trau_alaw.specs.Mulaw.{mulaw, mulaw_least, mulaw_end}
use Rattle.trau_alaw.proofs.MuSegments.{IsAtMu}
use Rattle.trau_alaw.proofs.Laid.{entry, IsLaid, IsIn}
use Rattle.trau_alaw.proofs.Laid as laid

-- the least magnitude of the interval with that number, segment and step as one number of seven bits
abbrev pub mu_start : ℕ → ℕ
mu_start n = if n == 128 then 32768 else mulaw_least (n / 16) (n % 16)

-- The seven lower bits inverted are the number, and the sign bit is 1 for positive as it stands.
back_table : list_all (λ n. nat_eq (bit_xor (bit_xor n 127) 127) n) (range_with_len 0 256) ≡ true
back_table = refl

-- tables over all 256 octets, and over the 128 indices of their order
sign_table : list_all (λ n. nat_eq (if nat_lt (bit_xor n 255) 128 then 1 else 0) (if nat_le 128 (bit_xor n 127) then 1 else 0)) (range_with_len 0 256) ≡ true
sign_table = refl

least_table : list_all (λ n. nat_eq (mulaw n).least (mu_start (bit_xor n 127 % 128))) (range_with_len 0 256) ≡ true
unfolding mulaw
least_table = refl

stop_table : list_all (λ n. nat_eq ((mulaw n).least + (mulaw n).width) (mu_start (bit_xor n 127 % 128 + 1))) (range_with_len 0 256) ≡ true
unfolding mulaw
stop_table = refl

rising_table : list_all (λ n. nat_le (mu_start n) (mu_start (n + 1))) (range_with_len 0 128) ≡ true
rising_table = refl

next_table : list_all (λ n. nat_eq (mu_start (n + 1)) (mulaw_end (n / 16) (n % 16))) (range_with_len 0 128) ≡ true
next_table = refl

here_table : list_all (λ n. nat_eq (mu_start n) (mulaw_least (n / 16) (n % 16))) (range_with_len 0 128) ≡ true
here_table = refl

-- truths are the same where their numbers are
same_truth : (a b : Bool) → ◌≡◌ {A = ℕ} (if a then 1 else 0) (if b then 1 else 0) → a ≡ b
same_truth true true e = refl
same_truth true false e = absurd (omega arith)
same_truth false true e = absurd (omega arith)
same_truth false false e = refl

is_positive-is : (octet : ℕ) → octet < 256 → (mulaw octet).is_positive ≡ nat_le 128 (bit_xor octet 127)
unfolding mulaw
is_positive-is octet h =
    same_truth _ _ (eqb-true _ _ (entry (λ n. nat_eq (if nat_lt (bit_xor n 255) 128 then 1 else 0) (if nat_le 128 (bit_xor n 127) then 1 else 0)) 256 octet
    sign_table h))

pub mulaw_laid : IsLaid mulaw 127 mu_start
mulaw_laid = record {
  small = omega arith;
  back = λ n h. eqb-true _ _ (entry (λ n. nat_eq (bit_xor (bit_xor n 127) 127) n) 256 n back_table h);
  sign = is_positive-is;
  least = λ n h. eqb-true _ _ (entry (λ n. nat_eq (mulaw n).least (mu_start (bit_xor n 127 % 128))) 256 n least_table h);
  stop = λ n h. eqb-true _ _ (entry (λ n. nat_eq ((mulaw n).least + (mulaw n).width) (mu_start (bit_xor n 127 % 128 + 1))) 256 n stop_table h);
  rising = λ n h. leb-true _ _ (entry (λ n. nat_le (mu_start n) (mu_start (n + 1))) 128 n rising_table h);
  first = refl;
  last = refl;
}

-- a magnitude of a segment's step lies in the interval of its index
in_interval : (n magnitude : ℕ) → n < 128 → IsAtMu (n / 16) (n % 16) magnitude → IsIn mu_start n magnitude
in_interval n magnitude h a =
    let low = a.at_least in
    let high = a.within in
    let here = eqb-true _ _ (entry (λ n. nat_eq (mu_start n) (mulaw_least (n / 16) (n % 16))) 128 n here_table h) in
    let next = eqb-true _ _ (entry (λ n. nat_eq (mu_start (n + 1)) (mulaw_end (n / 16) (n % 16))) 128 n next_table h) in
    record { at_least = omega arith; within = omega arith }

-- all bits inverted, below a sign that is 1 for negative, are the seven lower ones below a sign that is 1 for positive
flip_table : list_all (λ n. nat_eq (bit_xor n 255) (bit_xor ((n + 128) % 256) 127)) (range_with_len 0 256) ≡ true
flip_table = refl

pub only_octet : (x : ℤ) (code : ℕ) → code < 256 → IsAtMu (code % 128 / 16) (code % 128 % 16) (magnitude x) →
    (x <ℤ pos 0 → 128 ≤ code) → (pos 0 ≤ℤ x → code < 128) → IsOnlyOctet mulaw x (bit_xor code 255)
only_octet x code h a low high =
    let flip : bit_xor code 255 ≡ bit_xor ((code + 128) % 256) 127 =
    eqb-true _ _ (entry (λ n. nat_eq (bit_xor n 255) (bit_xor ((n + 128) % 256) 127)) 256 code flip_table h) in
    let same : (code + 128) % 256 % 128 ≡ code % 128 = omega arith in
    rw flip (laid.only_octet mulaw 127 mu_start mulaw_laid x ((code + 128) % 256) (omega arith)
    (rw same (in_interval (code % 128) (magnitude x) (omega arith) a))
    (λ l. let g = low l in omega arith) (λ l. let g = high l in omega arith))

-- each octet but one holds the middle of its own interval
middle_table : list_all (λ octet. (octet == 127) || contains (mulaw octet) (middle (mulaw octet))) (range_with_len 0 256) ≡ true
unfolding mulaw
middle_table = refl

-- the middle of an octet's interval lies in it, but that of the negative zero
pub holds-middle : (octet : ℕ) → octet < 256 → (octet == 127) ≡ false → contains (mulaw octet) (middle (mulaw octet)) ≡ true
holds-middle octet h e =
    let t : ((octet == 127) || contains (mulaw octet) (middle (mulaw octet))) ≡ true =
    entry (λ octet. (octet == 127) || contains (mulaw octet) (middle (mulaw octet))) 256 octet middle_table h in
    rw e at t

pub parts : PartsWords mulaw
parts = laid.parts mulaw 127 mu_start mulaw_laid
