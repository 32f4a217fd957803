use Rattle.std.proofs.Common.{◌≡◌, ◌∙◌, arith, ◌-ℤ◌, w32, w64, to_z, of_z}
use Rattle.std.proofs.lemmas.Int.{to_z-of_z, ints}
use Rattle.trau_num.specs.Num.{l_sub_of, clamp32}
use Rattle.trau_num.proofs.long_words.l_sub.Goals as goal

pub returns : goal.returns
unfolding l_sub_of
returns c =
    let a : c.from.result ≡ c.args.a = c.from.ensures ∙ to_z-of_z w32 c.args.a c.ranges.a in
    let b : c.from-2.result ≡ c.args.b = c.from-2.ensures ∙ to_z-of_z w32 c.args.b c.ranges.b in
    let exact : to_z w64 (of_z w64 (to_z w64 (of_z w64 c.from.result) -ℤ to_z w64 (of_z w64 c.from-2.result))) ≡ c.from.result -ℤ c.from-2.result =
    omega (arith, ints) in
    let clamped = rw exact at c.clamp_long.ensures in
    to_z-of_z w32 _ (record { sfits = c.clamp_long.type_inv }) ∙ clamped ∙ (λ i. clamp32 (a i -ℤ b i))
