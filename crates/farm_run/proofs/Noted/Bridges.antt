-- Notes of bridges: an order ends bridges, and one more comes.
use Rattle.std.proofs.Common.{◌≡◌, refl, sym, ap, ◌∙◌, subst, ℕ, zero, suc, true, Some, List, [], ◌∷◌, ◌++◌, length, map, get_or, arith}
use Rattle.std.proofs.lemmas.List.{append-nil, append_assoc, map-append}
use Rattle.switchboard.specs.declared.table.Bridge.{Bridge}
use Rattle.switchboard.specs.Calls.{Done}
use Rattle.switchboard.specs.Bridges.{joins, no_bridge}
use Rattle.switchboard.specs.Stands.{IsLatest}
use Rattle.switchboard.proofs.Orders.OneMore.{after}
use Rattle.farm_run.specs.declared.notes.SentBefore.{SentBefore}
use Rattle.farm_run.specs.Noted.{sent_before, AreNotes}

-- an order ends bridges and leaves their calls, so each call's latest bridge was the same before it
pub latest_before : (d : Done) (bs : List Bridge) (c k : ℕ) → IsLatest (map (after d) bs) c (Some k) → IsLatest bs c (Some k)
latest_before d bs c k h = (
  let m = h.0 in let e = long bs in omega arith,
  sym (side bs k) ∙ h.1,
  λ j m l. sym (side bs j) ∙ h.2 j m (let e = long bs in omega arith),
)
  where
    long : (bs : List Bridge) → length (map (after d) bs) ≡ length bs
    long [] = refl
    long (x ∷ bs) = ap suc (long bs)

    side : (bs : List Bridge) (j : ℕ) → joins c (get_or (map (after d) bs) j no_bridge) ≡ joins c (get_or bs j no_bridge)
    side [] j = refl
    side (x ∷ bs) zero = refl
    side (x ∷ bs) (suc j) = side bs j

-- **An order leaves the notes right.**
pub notes_after : (sent_in : ℕ → ℕ → ℕ) (d : Done) (front xs : List Bridge) (ns : List SentBefore) → AreNotes sent_in front xs ns →
    AreNotes sent_in (map (after d) front) (map (after d) xs) ns
notes_after sent_in d front [] [] a = tt
notes_after sent_in d front [] (n ∷ ns) a = absurd a
notes_after sent_in d front (x ∷ xs) [] a = absurd a
notes_after sent_in d front (x ∷ xs) (n ∷ ns) a = (
  λ c j m l. a.0 c j m (latest_before d front c j l),
  subst (λ (bs : List Bridge). AreNotes sent_in bs (map (after d) xs) ns) (map-append (after d) front (x ∷ []))
      (notes_after sent_in d (front ++ x ∷ []) xs ns a.1),
)

-- **A note of a bridge that begins leaves the notes right.**
pub notes_push : (sent_in : ℕ → ℕ → ℕ) (front xs : List Bridge) (ns : List SentBefore) (y : Bridge)
    (n : SentBefore) → AreNotes sent_in front xs ns →
    ((c j : ℕ) → joins c y ≡ true → IsLatest (front ++ xs) c (Some j) → sent_before c y n ≡ sent_in j c) →
    AreNotes sent_in front (xs ++ y ∷ []) (ns ++ n ∷ [])
notes_push sent_in front [] [] y n a h =
    (λ c j m l. h c j m (subst (λ (bs : List Bridge). IsLatest bs c (Some j)) (sym (append-nil front)) l), tt)
notes_push sent_in front [] (m ∷ ns) y n a h = absurd a
notes_push sent_in front (x ∷ xs) [] y n a h = absurd a
notes_push sent_in front (x ∷ xs) (m ∷ ns) y n a h = (
  a.0,
  notes_push sent_in (front ++ x ∷ []) xs ns y n a.1
      (λ c j m l. h c j m (subst (λ (bs : List Bridge). IsLatest bs c (Some j)) (append_assoc front (x ∷ []) xs) l)),
)
