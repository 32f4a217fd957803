-- The text of orders, as it is written.
use Rattle.std.proofs.Common.{◌≡◌, ℕ, ◌+◌, ◌-◌, ◌/◌, true, false, List, [], ◌∷◌, ◌++◌, map, refl, sym, ap, ◌∙◌, arith}
use Rattle.std.specs.Prelude.{codes, decimal, filter}
use Rattle.std.specs.List.{range_with_len}
use Rattle.std.proofs.lemmas.Fmt.{decimal_digit}
use Rattle.std.proofs.lemmas.List.{append-nil, append_assoc, map-append}
use Rattle.std.proofs.lemmas.List.Concat.{flat_map-append}
use Rattle.std.proofs.lemmas.List.Elements.{filter-append}
use Rattle.trau_orders.specs.declared.order.Order.{Order}
use Rattle.trau_orders.specs.Grammar.{order_line}
use Rattle.farm_drill.specs.Orders.{opening, bridging, unbridging, is_bridged, bridged_calls, drilled_orders, order_text, text_of}
use Rattle.farm_drill.proofs.Octets.{range-more}

-- ---- the line of each kind of order

pub opening-text : (call : ℕ) → order_text (opening call) ≡ codes "0 open " ++ (decimal call ++ codes "\n")
unfolding order_line
opening-text call =
    append_assoc (decimal 0) (codes " open " ++ decimal call) (codes "\n")
    ∙ ap (λ (d : List ℕ). d ++ (codes " open " ++ (decimal call ++ codes "\n"))) (decimal_digit 0 (omega arith))

pub bridging-text : (periods call : ℕ) →
    order_text (bridging periods call) ≡ decimal (periods / 4) ++ (codes " bridge " ++ (decimal call ++ (codes " " ++ (decimal (call + 1) ++ codes "\n"))))
unfolding order_line
bridging-text periods call =
    append_assoc (decimal (periods / 4)) (codes " bridge " ++ (decimal call ++ (codes " " ++ decimal (call + 1)))) (codes "\n")
    ∙ ap (λ (t : List ℕ). decimal (periods / 4) ++ (codes " bridge " ++ t)) (append_assoc (decimal call) (codes " " ++ decimal (call + 1)) (codes "\n"))

pub unbridging-text : (periods call : ℕ) → order_text (unbridging periods call) ≡ decimal (periods / 2) ++ (codes " unbridge " ++ (decimal call ++ codes "\n"))
unfolding order_line
unbridging-text periods call = append_assoc (decimal (periods / 2)) (codes " unbridge " ++ decimal call) (codes "\n")

-- ---- texts one after the other

pub text-none : text_of [] ≡ []
unfolding text_of
text-none = refl

pub text-one : (o : Order) → text_of (o ∷ []) ≡ order_text o
unfolding text_of
text-one o = append-nil (order_text o)

pub text-append : (os ps : List Order) → text_of (os ++ ps) ≡ text_of os ++ text_of ps
unfolding text_of
text-append os ps = flat_map-append order_text os ps

-- the line of a call that is bridged, and none of one that isn't
pub one_bridged : (f : ℕ → Order) (call : ℕ) → is_bridged call ≡ true → text_of (map f (filter is_bridged (call ∷ []))) ≡ order_text (f call)
one_bridged f call is = rw is (text-one (f call))

pub none_bridged : (f : ℕ → Order) (call : ℕ) → is_bridged call ≡ false → text_of (map f (filter is_bridged (call ∷ []))) ≡ []
none_bridged f call not = rw not text-none

-- ---- one call more

pub openings-more : (old new text : List ℕ) (n : ℕ) → text ≡ old ++ text_of (map opening (range_with_len 1 n)) → new ≡ text ++ order_text (opening (1 + n)) →
    new ≡ old ++ text_of (map opening (range_with_len 1 (n + 1)))
openings-more old new text n before put =
    put ∙ ap (λ (t : List ℕ). t ++ order_text (opening (1 + n))) before
    ∙ append_assoc old (text_of (map opening (range_with_len 1 n))) (order_text (opening (1 + n)))
    ∙ ap (λ (t : List ℕ). old ++ t) (ap (λ (t : List ℕ). text_of (map opening (range_with_len 1 n)) ++ t) (sym (text-one (opening (1 + n))))
    ∙ sym (text-append (map opening (range_with_len 1 n)) (opening (1 + n) ∷ []))
    ∙ ap text_of (sym (map-append opening (range_with_len 1 n) ((1 + n) ∷ [])) ∙ ap (map opening) (sym (range-more 1 n))))

pub bridges-more : (f : ℕ → Order) (old new text : List ℕ) (n : ℕ) → text ≡ old ++ text_of (map f (filter is_bridged (range_with_len 1 n))) →
    new ≡ text ++ text_of (map f (filter is_bridged ((1 + n) ∷ []))) → new ≡ old ++ text_of (map f (filter is_bridged (range_with_len 1 (n + 1))))
bridges-more f old new text n before put =
    put ∙ ap (λ (t : List ℕ). t ++ one) before ∙ append_assoc old so_far one
    ∙ ap (λ (t : List ℕ). old ++ t) (sym (text-append (map f (filter is_bridged (range_with_len 1 n))) (map f (filter is_bridged ((1 + n) ∷ []))))
    ∙ ap text_of (sym (map-append f (filter is_bridged (range_with_len 1 n)) (filter is_bridged ((1 + n) ∷ [])))
    ∙ ap (map f) (sym (filter-append is_bridged (range_with_len 1 n) ((1 + n) ∷ [])) ∙ ap (filter is_bridged) (sym (range-more 1 n)))))
  where
    one : List ℕ
    one = text_of (map f (filter is_bridged ((1 + n) ∷ [])))

    so_far : List ℕ
    so_far = text_of (map f (filter is_bridged (range_with_len 1 n)))

pub bridged-is : (calls : ℕ) → bridged_calls calls ≡ filter is_bridged (range_with_len 1 (calls - 1))
unfolding bridged_calls
bridged-is calls = refl

-- ---- the whole text

pub text-whole : (calls periods : ℕ) (opened bridged all : List ℕ) → opened ≡ [] ++ text_of (map opening (range_with_len 1 calls)) →
    bridged ≡ opened ++ text_of (map (bridging periods) (bridged_calls calls)) → all ≡ bridged ++ text_of (map (unbridging periods) (bridged_calls calls)) →
    all ≡ text_of (drilled_orders calls periods)
unfolding drilled_orders
text-whole calls periods opened bridged all a b c =
    c ∙ ap (λ (t : List ℕ). t ++ text_of (map (unbridging periods) (bridged_calls calls)))
    (b ∙ ap (λ (t : List ℕ). t ++ text_of (map (bridging periods) (bridged_calls calls))) a
    ∙ sym (text-append (map opening (range_with_len 1 calls)) (map (bridging periods) (bridged_calls calls))))
    ∙ sym (text-append (map opening (range_with_len 1 calls) ++ map (bridging periods) (bridged_calls calls)) (map (unbridging periods) (bridged_calls calls)))
