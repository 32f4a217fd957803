-- The words of a line: those of an order's line are the ones that order it.
use Rattle.std.proofs.Common.{◌≡◌, ℕ, ◌≤◌, ◌<◌, ◌^◌, Option, Some, None, IfSome, List, [], ◌∷◌, length, Bool, true, false, eqb, refl, sym, ◌∙◌, ap, subst}
use Rattle.std.proofs.Common.{arith, slice_index}
use Rattle.std.specs.Prelude.{ℤ, pos, ◌≤ℤ◌, codes, decimal, not, unsigned_abs}
use Rattle.std.specs.List.{AllByRecursion, join_with_byte, list_all}
use Rattle.std.proofs.lemmas.Bool.{ne_eqb, eqb-false}
use Rattle.std.proofs.lemmas.Int.{ints}
use Rattle.std.proofs.lemmas.Fmt.{digits_decimal}
use Rattle.std.proofs.lemmas.List.Elements.{All-from_get_or, All-weaker}
use Rattle.std.proofs.lemmas.List.Splits.{slice_split_at, slice_split_none, length-slice_split, join_with_byte-slice_split}
use Rattle.std.proofs.lemmas.List.Sums.{AllPass-from_list_all}
use Rattle.std.proofs.lemmas.Str.Parse.{digit_at}
use Rattle.decimal_number.proofs.Numbers.{own}
use Rattle.decimal_number.specs.Number.{IsNumber}
use Rattle.trau_alaw.specs.declared.Law.TheVariants.{A, Mu}
use Rattle.call_number.specs.CallNumber.{IsCallNumber}
use Rattle.trau_orders.specs.declared.order.DtxMode.{DtxMode}
use Rattle.trau_orders.specs.declared.order.DtxMode.TheVariants.{On, Off, Uplink}
use Rattle.trau_orders.specs.declared.order.What.{What}
use Rattle.trau_orders.specs.declared.order.What.TheVariants.{OpenCall, CloseCall, Bridge, Unbridge, Level, Dtx}
use Rattle.trau_orders.specs.declared.order.Order.{Order}
use Rattle.trau_orders.specs.Grammar.{mode_word, words_for, IsInRange, order_line, IsLine, words_of, AreWords}
use Rattle.decimal_number.specs.Splits.{Lacks, SplitsAt}

-- a line that splits at a space has the front as its first word
pub first_word : (line front back : List ℕ) → SplitsAt 32 line front back → words_of line ≡ front ∷ words_of back
first_word line front back at = ap words_of at.whole ∙ slice_split_at (λ b. eqb b 32) front 32 back at.front_lacks refl

-- a line without a space is one word
pub only_word : (line : List ℕ) → Lacks 32 line → words_of line ≡ line ∷ []
only_word line lacks = slice_split_none (λ b. eqb b 32) line lacks

-- words without spaces, joined by spaces, are the words of their line
words_join : (w : List ℕ) (ws : List (List ℕ)) → Lacks 32 w → AllByRecursion (Lacks 32) ws → words_of (join_with_byte 32 (w ∷ ws)) ≡ w ∷ ws
words_join w [] lacks all = only_word w lacks
words_join w (v ∷ ws) lacks all =
    slice_split_at (λ b. eqb b 32) w 32 (join_with_byte 32 (v ∷ ws)) lacks refl ∙ ap (λ r. w ∷ r) (words_join v ws all.0 all.1)

-- a word is a line's only one where it is one of one
lone_word : (ws : List (List ℕ)) → length ws ≡ 1 → ws ≡ join_with_byte 32 ws ∷ []
lone_word [] one = cc
lone_word (w ∷ []) one = refl
lone_word (w ∷ v ∷ ws) one = absurd (omega (arith, one))

lacks_digits : (n : ℕ) → n < 2 ^ 64 → Lacks 32 (decimal n)
lacks_digits n small =
    All-from_get_or (λ b. eqb b 32 ≡ false) (decimal n) 0
    (λ i within. let digit = digit_at (decimal n) i (digits_decimal own n small) within in ne_eqb _ 32 (λ e. absurd (omega (arith, e, digit.0))))

not_true : (b : Bool) → not b ≡ true → b ≡ false
not_true true e = cc
not_true false e = refl

lacks_letters : (word : List ℕ) → list_all (λ b. not (eqb b 32)) word ≡ true → Lacks 32 word
lacks_letters word all =
    All-weaker (λ b. not (eqb b 32) ≡ true) (λ b. eqb b 32 ≡ false) (λ b e. not_true (eqb b 32) e) word (AllPass-from_list_all (λ b. not (eqb b 32)) word all)

lacks_call : (c : ℕ) → IsCallNumber c → Lacks 32 (decimal c)
lacks_call c is = lacks_digits c (omega (arith, is.1))

lacks_mode : (m : DtxMode) → Lacks 32 (mode_word m)
lacks_mode On = lacks_letters (codes "on") refl
lacks_mode Off = lacks_letters (codes "off") refl
lacks_mode Uplink = lacks_letters (codes "uplink") refl

pub level_small : (v : ℤ) → pos 0 ≤ℤ v → v ≤ℤ pos 32767 → unsigned_abs v < 2 ^ 64
level_small v low high = omega (arith, ints, low, high)

lacks_level : (v : ℤ) → pos 0 ≤ℤ v → v ≤ℤ pos 32767 → Lacks 32 (decimal (unsigned_abs v))
lacks_level v low high = lacks_digits (unsigned_abs v) (level_small v low high)

all_lack : (what : What) → IsInRange what → AllByRecursion (Lacks 32) (words_for what)
all_lack (OpenCall c A) is = (lacks_letters (codes "open") refl, (lacks_call c is, tt))
all_lack (OpenCall c Mu) is = (lacks_letters (codes "open") refl, (lacks_call c is, (lacks_letters (codes "mulaw") refl, tt)))
all_lack (CloseCall c) is = (lacks_letters (codes "close") refl, (lacks_call c is, tt))
all_lack (Bridge a b) is = (lacks_letters (codes "bridge") refl, (lacks_call a is.0, (lacks_call b is.1, tt)))
all_lack (Unbridge c) is = (lacks_letters (codes "unbridge") refl, (lacks_call c is, tt))
all_lack (Level c v) is = (lacks_letters (codes "level") refl, (lacks_call c is.0, (lacks_level v is.1 is.2, tt)))
all_lack (Dtx c m) is = (lacks_letters (codes "dtx") refl, (lacks_call c is, (lacks_mode m, tt)))

-- two words at least order anything
pub not_none : (what : What) → words_for what ≡ [] → ⊥
not_none (OpenCall c law) e = cc
not_none (CloseCall c) e = cc
not_none (Bridge a b) e = cc
not_none (Unbridge c) e = cc
not_none (Level c v) e = cc
not_none (Dtx c m) e = cc

pub not_one : (what : What) (word : List ℕ) → words_for what ≡ word ∷ [] → ⊥
not_one (OpenCall c law) word e = cc
not_one (CloseCall c) word e = cc
not_one (Bridge a b) word e = cc
not_one (Unbridge c) word e = cc
not_one (Level c v) word e = cc
not_one (Dtx c m) word e = cc

-- the words of an order's line
pub line_words : (line : List ℕ) (order : Order) → IsLine line order → words_of line ≡ decimal order.stamp ∷ words_for order.what
unfolding order_line
line_words line order is =
    ap words_of is.spelled ∙ words_join (decimal order.stamp) (words_for order.what) (lacks_digits order.stamp (omega (arith, is.stamp)))
    (all_lack order.what is.in_range)

-- so a line's first word is its order's stamp, and the others order what it orders
pub stamp_first : (line front back : List ℕ) (order : Order) → SplitsAt 32 line front back → IsLine line order →
    (front ≡ decimal order.stamp) × (words_of back ≡ words_for order.what)
stamp_first line front back order at is =
    let both : front ∷ words_of back ≡ decimal order.stamp ∷ words_for order.what = sym (first_word line front back at) ∙ line_words line order is in
    (cc, cc)

-- a line of one word is no order's
pub refused_one : (line : List ℕ) → Lacks 32 line → (order : Order) → IsLine line order → ⊥
refused_one line lacks order is =
    let both : line ∷ [] ≡ decimal order.stamp ∷ words_for order.what = sym (only_word line lacks) ∙ line_words line order is in
    not_none order.what cc

-- nor is one whose first word is no stamp
pub refused_stamp : (line front back : List ℕ) → SplitsAt 32 line front back → ((n : ℕ) → IsNumber 0 4294967294 front n → ⊥) → (order : Order) →
    IsLine line order → ⊥
refused_stamp line front back at none order is =
    none order.stamp (record { at_least = omega arith; at_most = is.stamp; spelled = (stamp_first line front back order at is).0 })

-- nor one whose other words order nothing
pub refused_words : (line front back : List ℕ) → SplitsAt 32 line front back → ((what : What) → AreWords (words_of back) what → ⊥) → (order : Order) →
    IsLine line order → ⊥
refused_words line front back at none order is = none order.what (record { in_range = is.in_range; spelled = (stamp_first line front back order at is).1 })

-- and the order of a line with these words
pub is_line : (line front back : List ℕ) (order : Order) → SplitsAt 32 line front back → IsNumber 0 4294967294 front order.stamp →
    AreWords (words_of back) order.what → IsLine line order
unfolding order_line
is_line line front back order at number are =
    let words : words_of line ≡ decimal order.stamp ∷ words_for order.what =
    first_word line front back at ∙ ap (λ w. w ∷ words_of back) number.spelled ∙ ap (λ ws. decimal order.stamp ∷ ws) are.spelled in
    record { stamp = number.at_most; in_range = are.in_range; spelled = sym (join_with_byte-slice_split 32 line) ∙ ap (join_with_byte 32) words }

-- one word orders nothing
pub not_alone : (words : List ℕ) → Lacks 32 words → (what : What) → AreWords (words_of words) what → ⊥
not_alone words lacks what are = not_one what words (sym are.spelled ∙ only_word words lacks)

-- two words, and what follows the second space
pub two_words : (words verb rest : List ℕ) → SplitsAt 32 words verb rest → Lacks 32 rest → words_of words ≡ verb ∷ rest ∷ []
two_words words verb rest at lacks = first_word words verb rest at ∙ ap (λ ws. verb ∷ ws) (only_word rest lacks)

pub more_words : (words verb rest call more : List ℕ) → SplitsAt 32 words verb rest → SplitsAt 32 rest call more → words_of words ≡ verb ∷ call ∷ words_of more
more_words words verb rest call more at next = first_word words verb rest at ∙ ap (λ ws. verb ∷ ws) (first_word rest call more next)

-- three words at most order anything
few_words : (what : What) → length (words_for what) ≤ 3
few_words (OpenCall c A) = omega arith
few_words (OpenCall c Mu) = omega arith
few_words (CloseCall c) = omega arith
few_words (Bridge a b) = omega arith
few_words (Unbridge c) = omega arith
few_words (Level c v) = omega arith
few_words (Dtx c m) = omega arith

-- the third word may be told as what follows the second space
pub third_whole : (a b more : List ℕ) (what : What) → AreWords (a ∷ b ∷ more ∷ []) what → AreWords (a ∷ b ∷ words_of more) what
third_whole a b more what are =
    let lack = subst (AllByRecursion (Lacks 32)) (sym are.spelled) (all_lack what are.in_range) in
    record { in_range = are.in_range; spelled = ap (λ ws. a ∷ b ∷ ws) (only_word more lack.1.1.0) ∙ are.spelled }

pub third_word : (a b more : List ℕ) (what : What) → AreWords (a ∷ b ∷ words_of more) what → AreWords (a ∷ b ∷ more ∷ []) what
third_word a b more what are =
    let few = few_words what in
    let some = length-slice_split (λ x. eqb x 32) more in
    let longer : length (a ∷ b ∷ words_of more) ≡ length (words_for what) = ap length are.spelled in
    let one : length (words_of more) ≡ 1 = omega (arith, few, some, longer) in
    let alone : words_of more ≡ more ∷ [] = lone_word (words_of more) one ∙ ap (λ w. w ∷ []) (join_with_byte-slice_split 32 more) in
    record { in_range = are.in_range; spelled = ap (λ ws. a ∷ b ∷ ws) (sym alone) ∙ are.spelled }

-- three words order nothing where no order has such a third one with its verb
pub no_three : (verb call more : List ℕ) → (verb ≡ codes "open" → more ≡ codes "mulaw" → ⊥) → (verb ≡ codes "bridge" → (b : ℕ) → IsCallNumber b →
    more ≡ decimal b → ⊥) →
    (verb ≡ codes "level" → (v : ℤ) → pos 0 ≤ℤ v → v ≤ℤ pos 32767 → more ≡ decimal (unsigned_abs v) → ⊥) →
    (verb ≡ codes "dtx" → (m : DtxMode) → more ≡ mode_word m → ⊥) → (what : What) → AreWords (verb ∷ call ∷ more ∷ []) what → ⊥
no_three verb call more mulaw bridge level dtx (OpenCall c A) are = let e = ap length are.spelled in absurd (omega (arith, e))
no_three verb call more mulaw bridge level dtx (OpenCall c Mu) are = let e = are.spelled in let is : verb ≡ codes "open" = cc in mulaw is cc
no_three verb call more mulaw bridge level dtx (CloseCall c) are = let e = ap length are.spelled in absurd (omega (arith, e))
no_three verb call more mulaw bridge level dtx (Unbridge c) are = let e = ap length are.spelled in absurd (omega (arith, e))
no_three verb call more mulaw bridge level dtx (Bridge a b) are = let e = are.spelled in let is : verb ≡ codes "bridge" = cc in bridge is b are.in_range.1 cc
no_three verb call more mulaw bridge level dtx (Level c v) are = let e = are.spelled in let is : verb
    ≡ codes "level" = cc in level is v are.in_range.1 are.in_range.2 cc
no_three verb call more mulaw bridge level dtx (Dtx c m) are = let e = are.spelled in let is : verb ≡ codes "dtx" = cc in dtx is m cc

-- nor where the second is no call
pub no_call : (verb call more : List ℕ) → ((n : ℕ) → IsCallNumber n → call ≡ decimal n → ⊥) → (what : What) → AreWords (verb ∷ call ∷ more ∷ []) what → ⊥
no_call verb call more none (OpenCall c law) are = let e = are.spelled in none c are.in_range cc
no_call verb call more none (CloseCall c) are = let e = ap length are.spelled in absurd (omega (arith, e))
no_call verb call more none (Unbridge c) are = let e = ap length are.spelled in absurd (omega (arith, e))
no_call verb call more none (Bridge a b) are = let e = are.spelled in none a are.in_range.0 cc
no_call verb call more none (Level c v) are = let e = are.spelled in none c are.in_range.0 cc
no_call verb call more none (Dtx c m) are = let e = are.spelled in none c are.in_range cc

-- verbs are told apart by their first letters
pub other_verb : (verb a b : List ℕ) (P : Type 0) → eqb (slice_index a 0) (slice_index b 0) ≡ false → verb ≡ a → verb ≡ b → P
other_verb verb a b P differ is other = let same : slice_index a 0 ≡ slice_index b 0 = ap (λ w. slice_index w 0) (sym is ∙ other) in absurd
    (eqb-false (slice_index a 0) (slice_index b 0) differ same)

-- a clause about what is ordered, where nothing is
pub nothing_ordered : (r : Option What) (P : What → Type 0) → r ≡ None → IfSome r P
nothing_ordered None P e = tt
nothing_ordered (Some w) P e = cc

-- three words, each of them known
pub all_three : (a b c verb call more : List ℕ) → verb ≡ a → call ≡ b → more ≡ c → verb ∷ call ∷ more ∷ [] ≡ a ∷ b ∷ c ∷ []
all_three a b c verb call more first second third = rw (first, second, third) refl
