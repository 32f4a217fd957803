-- A text has one number behind its first words, and one call on its first line.
use Rattle.std.proofs.Common.{◌≡◌, ℕ, ◌^◌, ◌<◌, ◌≤◌, Option, Some, None, IfSome, IsNone, List, [], ◌∷◌, ◌++◌, eqb, false, refl, sym, ◌∙◌, ap, subst, arith}
use Rattle.std.proofs.Common.{append_assoc}
use Rattle.std.specs.Prelude.{codes, decimal}
use Rattle.std.specs.Option.{MatchOption}
use Rattle.std.proofs.lemmas.Bool.{ne_eqb}
use Rattle.std.proofs.lemmas.Bool.Decides.{Decides-eqb}
use Rattle.std.proofs.lemmas.Fmt.{decimal_injective, digits_decimal}
use Rattle.std.proofs.lemmas.List.{append_cancel_left}
use Rattle.std.proofs.lemmas.List.Elements.{All-head, All-tail, All-from_get_or}
use Rattle.std.proofs.lemmas.Str.Parse.{digit_at}
use Rattle.decimal_number.proofs.Numbers.{own}
use Rattle.decimal_number.specs.Number.{IsNumber}
use Rattle.farm_checkpoint.specs.declared.mark.MarkCall.{MarkCall}
use Rattle.farm_checkpoint.specs.Text.{save_line, call_text}
use Rattle.decimal_number.specs.Splits.{Lacks, SplitsAt}
use Rattle.farm_checkpoint.specs.Fields.{IsField}

pub some_of : {A : Type 0} (r : Option A) (N : Type 0) (S : A → Type 0) → MatchOption r N S → IfSome r S
some_of None N S m = tt
some_of (Some x) N S m = m

pub none_of : {A : Type 0} (r : Option A) (N : Type 0) (S : A → Type 0) → MatchOption r N S → IsNone r → N
none_of None N S m is = m
none_of (Some x) N S m is = cc

is_itself : (s : ℕ) → eqb s s ≡ false → ⊥
is_itself s e = let same = (Decides-eqb s s).1 refl in cc

not_first : (s x : ℕ) (b d : List ℕ) → eqb x s ≡ false → s ∷ b ≡ x ∷ d → ⊥
not_first s x b d lacks e = let same : s ≡ x = cc in is_itself s (subst (λ y. eqb y s ≡ false) (sym same) lacks)

-- what stands before the first such octet, and behind it, is one thing each
pub one_split : (s : ℕ) (f g b d : List ℕ) → Lacks s f → Lacks s g → f ++ s ∷ b ≡ g ++ s ∷ d → (f ≡ g) × (b ≡ d)
one_split s [] [] b d lf lg e = (refl, cc)
one_split s [] (y ∷ g) b d lf lg e = absurd (not_first s y b (g ++ s ∷ d) (All-head (λ x. eqb x s ≡ false) y g lg) e)
one_split s (x ∷ f) [] b d lf lg e = absurd (not_first s x d (f ++ s ∷ b) (All-head (λ y. eqb y s ≡ false) x f lf) (sym e))
one_split s (x ∷ f) (y ∷ g) b d lf lg e =
    let tails = one_split s f g b d (All-tail (λ z. eqb z s ≡ false) x f lf) (All-tail (λ z. eqb z s ≡ false) y g lg) cc in
    let head : x ≡ y = cc in
    ((λ i. head i ∷ tails.0 i), tails.1)

-- a list that has an octet doesn't lack it
pub has_it : (s : ℕ) (f b : List ℕ) → Lacks s (f ++ s ∷ b) → ⊥
has_it s [] b lacks = is_itself s (All-head (λ y. eqb y s ≡ false) s b lacks)
has_it s (x ∷ f) b lacks = has_it s f b (All-tail (λ y. eqb y s ≡ false) x (f ++ s ∷ b) lacks)

pub digits_lack : (s n : ℕ) → s < 48 → n < 2 ^ 64 → Lacks s (decimal n)
digits_lack s n low small =
    All-from_get_or (λ b. eqb b s ≡ false) (decimal n) 0
    (λ i within. let digit = digit_at (decimal n) i (digits_decimal own n small) within in ne_eqb _ s (λ e. absurd (omega (arith, e, digit.0, low))))

pub one_number : (s m n : ℕ) (b d : List ℕ) → s < 48 → m < 2 ^ 64 → n < 2 ^ 64 → decimal m ++ s ∷ b ≡ decimal n ++ s ∷ d → (m ≡ n) × (b ≡ d)
one_number s m n b d low small small' e =
    let parts = one_split s (decimal m) (decimal n) b d (digits_lack s m low small) (digits_lack s n low small') e in
    (decimal_injective m n small small' parts.0, parts.1)

pub one_field : (low high low' high' s m n : ℕ) (words text b d : List ℕ) → s < 48 → high < 2 ^ 64 → high' < 2 ^ 64 →
    IsField low high words s text m b → IsField low' high' words s text n d → (m ≡ n) × (b ≡ d)
one_field low high low' high' s m n words text b d stop small small' one other =
    one_number s m n b d stop (omega (arith, one.at_most)) (omega (arith, other.at_most)) (append_cancel_left words _ _ (sym one.spelled ∙ other.spelled))

-- without the octet behind it there is no number
pub no_stop : (low high s n : ℕ) (words text rest b : List ℕ) → text ≡ words ++ rest → Lacks s rest → IsField low high words s text n b → ⊥
no_stop low high s n words text rest b front lacks is = has_it s (decimal n) b (subst (Lacks s) (append_cancel_left words _ _ (sym front ∙ is.spelled)) lacks)

-- nor where what stands before the octet is none
pub no_number : (low high s n : ℕ) (words text rest digits back b : List ℕ) → s < 48 → high < 2 ^ 64 → text ≡ words ++ rest → SplitsAt s rest digits back →
    ((m : ℕ) → IsNumber low high digits m → ⊥) → IsField low high words s text n b → ⊥
no_number low high s n words text rest digits back b stop small front at none is =
    let same = append_cancel_left words _ _ (sym front ∙ is.spelled) in
    let parts = one_split s digits (decimal n) back b at.front_lacks (digits_lack s n stop (omega (arith, is.at_most))) (sym at.whole ∙ same) in
    none n (record { at_least = is.at_least; at_most = is.at_most; spelled = parts.0 })

-- the number of a mark's first line
pub save_field : (period : ℕ) (text rest : List ℕ) → 1 ≤ period → period ≤ 4294967295 → text ≡ save_line period ++ rest →
    IsField 1 4294967295 (codes "save ") 10 text period rest
unfolding save_line
save_field period text rest low high e =
    record { at_least = low; at_most = high; spelled = e ∙ ap (λ t. codes "save " ++ t) (append_assoc (decimal period) (codes "\n") rest) }

pub save_text : (period : ℕ) (text rest : List ℕ) → IsField 1 4294967295 (codes "save ") 10 text period rest → text ≡ save_line period ++ rest
unfolding save_line
save_text period text rest is = is.spelled ∙ sym (ap (λ t. codes "save " ++ t) (append_assoc (decimal period) (codes "\n") rest))

-- what stands behind a call's number, its opening and its sums
abbrev pub behind_out : MarkCall → List ℕ → List ℕ
behind_out c rest = codes "down " ++ (decimal c.down ++ 10 ∷ rest)

abbrev pub behind_from : MarkCall → List ℕ → List ℕ
behind_from c rest = codes "out " ++ (decimal c.out ++ 32 ∷ behind_out c rest)

abbrev pub behind_call : MarkCall → List ℕ → List ℕ
behind_call c rest = codes "from " ++ (decimal c.from ++ 32 ∷ behind_from c rest)

pub spread : (c : MarkCall) (rest : List ℕ) → call_text c ++ rest ≡ codes "call " ++ (decimal c.call ++ 32 ∷ behind_call c rest)
unfolding call_text
spread c rest =
    ap (λ t. codes "call " ++ t) (append_assoc (decimal c.call) _ rest
    ∙ ap (λ t. decimal c.call ++ (codes " from " ++ t)) (append_assoc (decimal c.from) _ rest
    ∙ ap (λ t. decimal c.from ++ (codes " out " ++ t)) (append_assoc (decimal c.out) _ rest
    ∙ ap (λ t. decimal c.out ++ (codes " down " ++ t)) (append_assoc (decimal c.down) _ rest))))

-- the four numbers of a call's line are in these ranges
pub record Fits (c : MarkCall) : Type 0 where
  pub call : c.call ≤ 4294967295
  pub from : c.from ≤ 4294967295
  pub out : c.out ≤ 4294967295
  pub down : c.down ≤ 4294967295

pub one_call : (c d : MarkCall) (a b : List ℕ) → Fits c → Fits d → call_text c ++ a ≡ call_text d ++ b → (c ≡ d) × (a ≡ b)
one_call c d a b fits fits' e =
    let first = one_number 32 c.call d.call _ _ (omega arith) (omega (arith, fits.call)) (omega (arith, fits'.call))
    (append_cancel_left (codes "call ") _ _ (sym (spread c a) ∙ e ∙ spread d b)) in
    let second = one_number 32 c.from d.from _ _ (omega arith) (omega (arith, fits.from)) (omega (arith, fits'.from))
    (append_cancel_left (codes "from ") _ _ first.1) in
    let third = one_number 32 c.out d.out _ _ (omega arith) (omega (arith, fits.out)) (omega (arith, fits'.out))
    (append_cancel_left (codes "out ") _ _ second.1) in
    let fourth = one_number 10 c.down d.down _ _ (omega arith) (omega (arith, fits.down)) (omega (arith, fits'.down))
    (append_cancel_left (codes "down ") _ _ third.1) in
    ((λ i. record { call = first.0 i; from = second.0 i; out = third.0 i; down = fourth.0 i }), fourth.1)

-- a call's line and a number that stands where its own does
pub call_field : (c : MarkCall) (low high : ℕ) (text rest : List ℕ) → low ≤ c.call → c.call ≤ high → text ≡ call_text c ++ rest →
    IsField low high (codes "call ") 32 text c.call (behind_call c rest)
call_field c low high text rest at_least at_most e = record { at_least = at_least; at_most = at_most; spelled = e ∙ spread c rest }

pub from_field : (c : MarkCall) (high : ℕ) (text rest : List ℕ) → c.from ≤ high → text ≡ behind_call c rest →
    IsField 0 high (codes "from ") 32 text c.from (behind_from c rest)
from_field c high text rest at_most e = record { at_least = omega arith; at_most = at_most; spelled = e }

pub out_field : (c : MarkCall) (text rest : List ℕ) → c.out ≤ 4294967295 → text ≡ behind_from c rest →
    IsField 0 4294967295 (codes "out ") 32 text c.out (behind_out c rest)
out_field c text rest at_most e = record { at_least = omega arith; at_most = at_most; spelled = e }

pub down_field : (c : MarkCall) (text rest : List ℕ) → c.down ≤ 4294967295 → text ≡ behind_out c rest → IsField 0 4294967295 (codes "down ") 10 text c.down rest
down_field c text rest at_most e = record { at_least = omega arith; at_most = at_most; spelled = e }

-- what stands behind the numbers of a call's line that were read is what stands behind the call's own
pub after_call : (c : MarkCall) (low m : ℕ) (text one rest : List ℕ) → c.call ≤ 4096 → text ≡ call_text c ++ rest →
    IsField low 4096 (codes "call ") 32 text m one → one ≡ behind_call c rest
after_call c low m text one rest at_most e read =
    (one_field low 4096 0 4096 32 m c.call (codes "call ") text one (behind_call c rest) (omega arith) (omega arith) (omega arith) read
    (call_field c 0 4096 text rest (omega arith) at_most e)).1

pub after_from : (c : MarkCall) (high m : ℕ) (one two rest : List ℕ) → high < 2 ^ 32 → c.from ≤ high → one ≡ behind_call c rest →
    IsField 0 high (codes "from ") 32 one m two → two ≡ behind_from c rest
after_from c high m one two rest small at_most e read =
    (one_field 0 high 0 high 32 m c.from (codes "from ") one two (behind_from c rest) (omega arith) (omega (arith, small)) (omega (arith, small)) read
    (from_field c high one rest at_most e)).1

pub after_out : (c : MarkCall) (m : ℕ) (two three rest : List ℕ) → c.out ≤ 4294967295 → two ≡ behind_from c rest →
    IsField 0 4294967295 (codes "out ") 32 two m three → three ≡ behind_out c rest
after_out c m two three rest at_most e read =
    (one_field 0 4294967295 0 4294967295 32 m c.out (codes "out ") two three (behind_out c rest) (omega arith) (omega arith) (omega arith) read
    (out_field c two rest at_most e)).1

-- the line of a call whose four numbers were read
pub line_read : (c : MarkCall) (low high before : ℕ) (text one two three rest : List ℕ) → IsField low high (codes "call ") 32 text c.call one →
    IsField 0 before (codes "from ") 32 one c.from two →
    IsField 0 4294967295 (codes "out ") 32 two c.out three → IsField 0 4294967295 (codes "down ") 10 three c.down rest → text ≡ call_text c ++ rest
line_read c low high before text one two three rest first second third fourth =
    first.spelled
    ∙ ap (λ t. codes "call " ++ (decimal c.call ++ 32 ∷ t)) (second.spelled
    ∙ ap (λ t. codes "from " ++ (decimal c.from ++ 32 ∷ t)) (third.spelled
    ∙ ap (λ t. codes "out " ++ (decimal c.out ++ 32 ∷ t)) fourth.spelled))
    ∙ sym (spread c rest)
