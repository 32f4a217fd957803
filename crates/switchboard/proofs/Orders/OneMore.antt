-- For crates above: what one more executed order changes of the bridges (`bridges-more`, `after`), and of what was
-- found before (`or_else`).
use Rattle.std.proofs.Common.{◌≡◌, refl, sym, ap, ◌∙◌, ℕ, Bool, true, false, Option, Some, None, List, [], ◌∷◌, ◌++◌, map}
use Rattle.std.specs.Prelude.{Result, Ok, Err, find, option_map, if◌then◌else◌}
use Rattle.std.proofs.lemmas.List.{append_assoc, append-nil, map-append}
use Rattle.switchboard.specs.declared.act.Act.{Act}
use Rattle.switchboard.specs.declared.act.Act.TheVariants as act
use Rattle.switchboard.specs.declared.act.Refusal.{Refusal}
use Rattle.switchboard.specs.declared.table.Bridge.{Bridge}
use Rattle.switchboard.specs.Calls.{Done}
use Rattle.switchboard.specs.Bridges.{ends_bridge, bridge_by, bridges}

-- the first answer, or else the second
abbrev pub or_else : {X : Type 0} → Option X → Option X → Option X
or_else None y = y
or_else (Some x) y = Some x

-- a bridge after one more order, which ends it where none did before
abbrev pub after : Done → Bridge → Bridge
after d x = record x { ended = or_else x.ended (option_map (λ d. d.order.stamp) (find (λ d. ends_bridge x.a x.b d.result) (d ∷ []))) }

-- the stamp of an executed order
abbrev pub stamp_of : Option Done → Option ℕ
stamp_of o = option_map (λ d. d.order.stamp) o

-- a search over one more order: what is found first is what was found before, or the new one
one_more : (t : Bool) (e : Done) (u v : Option Done) (w : Option ℕ) → stamp_of u ≡ or_else (stamp_of v) w →
    stamp_of (if t then Some e else u) ≡ or_else (stamp_of (if t then Some e else v)) w
one_more true e u v w h = refl
one_more false e u v w h = h

-- the first order that ends a bridge, with one more order behind the others
first_ender : (a b : ℕ) (d : Done) (later : List Done) →
    stamp_of (find (λ x. ends_bridge a b x.result) (later ++ d ∷ [])) ≡
    or_else (stamp_of (find (λ x. ends_bridge a b x.result) later)) (stamp_of (find (λ x. ends_bridge a b x.result) (d ∷ [])))
first_ender a b d [] = refl
first_ender a b d (e ∷ later) = one_more (ends_bridge a b e.result) e _ _ _ (first_ender a b d later)

-- the bridge that an order made, with one more order behind it
bridge_by-more : (t : ℕ) (r : Result Act Refusal) (later : List Done) (d : Done) →
    bridge_by t r (later ++ d ∷ []) ≡ map (after d) (bridge_by t r later)
bridge_by-more t (Ok (act.Bridged a b)) later d = ap (λ o. record { a = a; b = b; from = t; ended = o } ∷ []) (first_ender a b d later)
bridge_by-more t (Ok (act.Opened c law)) later d = refl
bridge_by-more t (Ok (act.Closed c p)) later d = refl
bridge_by-more t (Ok (act.Unbridged a b)) later d = refl
bridge_by-more t (Ok (act.LevelSet c v)) later d = refl
bridge_by-more t (Ok (act.DtxSet c m)) later d = refl
bridge_by-more t (Err e) later d = refl

-- one more order ends some of the bridges, and may begin one
pub bridges-more : (ds : List Done) (d : Done) → bridges (ds ++ d ∷ []) ≡ map (after d) (bridges ds) ++ bridge_by d.order.stamp d.result []
bridges-more [] d = append-nil _
bridges-more (e ∷ ds) d =
    ap (λ xs. xs ++ bridges (ds ++ d ∷ [])) (bridge_by-more e.order.stamp e.result ds d) ∙
    ap (λ xs. map (after d) (bridge_by e.order.stamp e.result ds) ++ xs) (bridges-more ds d) ∙
    sym (append_assoc (map (after d) (bridge_by e.order.stamp e.result ds)) (map (after d) (bridges ds)) (bridge_by d.order.stamp d.result [])) ∙
    ap (λ xs. xs ++ bridge_by d.order.stamp d.result []) (sym (map-append (after d) (bridge_by e.order.stamp e.result ds) (bridges ds)))
