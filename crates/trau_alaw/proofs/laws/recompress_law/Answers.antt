use Rattle.std.proofs.Common.{◌≡◌, ℕ, ◌<◌, ℤ, FitsSigned, w16, sym, refl, arith, rules}
use Rattle.std.specs.Prelude.{◌≢◌, ◌==◌, false, true}
use Rattle.std.proofs.lemmas.Int.{to_z-of_z}
use Rattle.trau_alaw.specs.declared.Law.{Law}
use Rattle.trau_alaw.specs.declared.Law.TheVariants.{A, Mu}
use Rattle.trau_alaw.specs.Companding.{middle, contains, IsOnlyOctet}
use Rattle.trau_alaw.specs.Laws.{companding}
use Rattle.trau_alaw.proofs.Octets as a
use Rattle.trau_alaw.proofs.MuOctets as mu
use Rattle.trau_alaw.proofs.laws.recompress_law.Goals as goal

holds-middle : (law : Law) (octet : ℕ) → octet < 256 → (law ≡ Mu → octet ≢ 127) → contains (companding law octet) (middle (companding law octet)) ≡ true
holds-middle A octet l h = a.holds-middle octet l
holds-middle Mu octet l h = let n : octet ≢ 127 = h refl in let e : (octet == 127) ≡ false = grind arith in mu.holds-middle octet l e

back : (law : Law) (octet result : ℕ) (x : ℤ) → octet < 256 → x ≡ middle (companding law octet) → IsOnlyOctet (companding law) x result →
    (law ≡ Mu → octet ≢ 127) → result ≡ octet
back law octet result x l e h n = sym (h.only octet l (rw e (holds-middle law octet l n)))

pub returns : goal.returns
returns c =
    let f : FitsSigned w16 c.expand_law.result = search rules in
    back c.args.law c.args.octet c.compress_law.result c.expand_law.result (omega arith) c.expand_law.ensures
    (simp to_z-of_z at c.compress_law.ensures.only)
