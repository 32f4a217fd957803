-- Bays after a file is put into one, and after a line is given one.
use Rattle.std.proofs.Common.{◌≡◌, ◌⊎◌, Result, Ok, Err, IfSome, IsSome, subst, ◌<◌, ℕ, zero, suc, List, [], ◌∷◌, length, Option, None, Some, All, replicate, slice_set, slice_index_or}
use Rattle.std.proofs.Common.{length-set, refl, sym, ◌∙◌, ap, arith, inl, inr}
use Rattle.std.proofs.lemmas.List.{get_or_read_under}
use Rattle.std.proofs.lemmas.List.Elements.{All-replicate}
use Rattle.trau_io.specs.declared.line.Side.{Side}
use Rattle.trau_io.specs.Indices.{index_of_line}
use Rattle.trau_io.proofs.Tables.{same_line}
use Rattle.trau_files.specs.declared.trunk.bays.Access.{Access}
use Rattle.trau_files.specs.Files.{OpenLine, IsFileOf, IsOpenAt, OnlyCloses, OpenAfter, FileAfter, OthersSit, AreBayed, in_bay}

-- an element is the one that was put there, or as before
pub set_place : {X : Type 0} (xs : List X) (i : ℕ) (y d : X) (k : ℕ) →
    ((k ≡ i) × (slice_index_or (slice_set xs i y) k d ≡ y)) ⊎ (slice_index_or (slice_set xs i y) k d ≡ slice_index_or xs k d)
set_place [] i y d k = inr refl
set_place (x ∷ xs) zero y d zero = inl (refl, refl)
set_place (x ∷ xs) zero y d (suc k) = inr refl
set_place (x ∷ xs) (suc i) y d zero = inr refl
set_place (x ∷ xs) (suc i) y d (suc k) = elim (set_place xs i y d k) [ inl s ↦ inl (ap suc s.0, s.1) | inr s ↦ inr s ]

pub set_there : {X : Type 0} (xs : List X) (i : ℕ) (y d : X) → i < length xs → slice_index_or (slice_set xs i y) i d ≡ y
set_there [] i y d within = absurd (omega arith)
set_there (x ∷ xs) zero y d within = refl
set_there (x ∷ xs) (suc i) y d within = set_there xs i y d (omega arith)

pub empty : {X : Type 0} (bays : List (Option X)) → All (λ bay. bay ≡ None) bays → (k : ℕ) → slice_index_or bays k None ≡ None
empty [] none k = refl
empty (s ∷ ss) none zero = none 0 None (omega arith)
empty (s ∷ ss) none (suc k) = empty ss (λ j d within. none (suc j) d (omega arith)) k

pub within : {X : Type 0} (xs : List (Option X)) (k : ℕ) (x : X) → slice_index_or xs k None ≡ Some x → k < length xs
within [] k x there = let never : ⊥ = cc in absurd never
within (y ∷ ys) zero x there = omega arith
within (y ∷ ys) (suc k) x there = omega (arith, within ys k x there)

-- a clone of None is None
pub cloned_none : {X : Type 0} (IsClone : Option X → Type 0) → ((x : X) → IsClone (Some x) → ⊥) → (y : Option X) → IsClone y → y ≡ None
cloned_none IsClone never None clone = refl
cloned_none IsClone never (Some x) clone = absurd (never x clone)

pub all_none : {X : Type 0} (n : ℕ) (xs : List (Option X)) → xs ≡ replicate n None → All (λ x. x ≡ None) xs
all_none n xs is = rw is (All-replicate (λ (o : Option _). o ≡ None) n None refl)

module _ {F : Type 0} where
  pub bayed_in_none : (bays : List (Option (OpenLine F))) (bay_of : List ℕ) → All (λ bay. bay ≡ None) bays → AreBayed bays bay_of
  bayed_in_none bays bay_of none k o there = let e = empty bays none k in cc

  -- a line without an open file is given a bay
  pub bayed_elsewhere : (bays : List (Option (OpenLine F))) (bay_of : List ℕ) (call : ℕ) (side : Side) (p bay : ℕ) → p ≡ index_of_line call side →
      IsFileOf bays call side None → AreBayed bays bay_of → AreBayed bays (slice_set bay_of p bay)
  bayed_elsewhere bays bay_of call side p bay at closed bayed k o there =
      elim (set_place bay_of p bay 0 (index_of_line o.call o.side)) [
        | inl s ↦ let same = same_line o.call call o.side side (s.0 ∙ at) in let e = closed.only k o there same.0 same.1 in cc
        | inr s ↦ s ∙ bayed k o there
      ]

  same_bay : (bay_of : List ℕ) (file o : OpenLine F) (bay k : ℕ) → bay ≡ slice_index_or bay_of (index_of_line file.call file.side) 0 →
      slice_index_or bay_of (index_of_line o.call o.side) 0 ≡ k → o.call ≡ file.call → o.side ≡ file.side → k ≡ bay
  same_bay bay_of file o bay k is named call side = cc

  -- a file is put into its line's bay
  pub bayed_after : (bays : List (Option (OpenLine F))) (bay_of : List ℕ) (file : OpenLine F) (bay : ℕ) →
      bay ≡ slice_index_or bay_of (index_of_line file.call file.side) 0 → AreBayed bays bay_of → AreBayed (slice_set bays bay (Some file)) bay_of
  bayed_after bays bay_of file bay is bayed k o there =
      elim (set_place bays bay (Some file) None k) [
        | inl s ↦ let e : Some o ≡ Some file = sym there ∙ s.1 in let same : o ≡ file = cc in
            ap (λ (f : OpenLine F). slice_index_or bay_of (index_of_line f.call f.side) 0) same ∙ sym is ∙ sym s.0
        | inr s ↦ bayed k o (sym s ∙ there)
      ]

  pub open_after_put : (bays : List (Option (OpenLine F))) (bay_of : List ℕ) (file : OpenLine F) (bay : ℕ) →
      bay ≡ slice_index_or bay_of (index_of_line file.call file.side) 0 → bay < length bays → AreBayed bays bay_of →
      OpenAfter bays (slice_set bays bay (Some file)) file.call file.side (Some file)
  open_after_put bays bay_of file bay is within bayed =
      let put = set_there bays bay (Some file) None within in
      record {
        this = record {
          only = λ k o there call side.
              let named = bayed_after bays bay_of file bay is bayed k o there in
              let same : k ≡ bay = same_bay bay_of file o bay k is named call side in
              sym put ∙ ap (in_bay (slice_set bays bay (Some file))) (sym same) ∙ there;
          there = (bay, put);
        };
        others = λ k. elim (set_place bays bay (Some file) None k) [ inl s ↦ inr (inr s.1) | inr s ↦ inl s ];
        number = length-set bays bay (Some file);
      }

  -- the file in a bay is moved on, or closed
  pub moved_to : (bays : List (Option (OpenLine F))) (bay_of : List ℕ) (o : OpenLine F) (bay : ℕ) (file : Option (OpenLine F)) → in_bay bays bay ≡ Some o →
      bay < length bays → AreBayed bays bay_of → OpenAfter bays (slice_set bays bay file) o.call o.side file
  moved_to bays bay_of o bay file was within bayed =
      let put = set_there bays bay file None within in
      record {
        this = record {
          only = λ k o' there call side. elim (set_place bays bay file None k) [
            | inl s ↦ sym s.1 ∙ there
            | inr s ↦
                let same : k ≡ bay = same_bay bay_of o o' bay k (sym (bayed bay o was)) (bayed k o' (sym s ∙ there)) call side in
                sym put ∙ ap (in_bay (slice_set bays bay file)) (sym same) ∙ there
          ];
          there = found file put;
        };
        others = λ k. elim (set_place bays bay file None k) [ inl s ↦ inr (inr s.1) | inr s ↦ inl s ];
        number = length-set bays bay file;
      }
    where
      found : (file : Option (OpenLine F)) → in_bay (slice_set bays bay file) bay ≡ file →
          IfSome file (λ x. (k : ℕ) × (in_bay (slice_set bays bay file) k ≡ Some x))
      found None put = tt
      found (Some x) put = (bay, put)

  -- a line's file stands in the bay that the line's entry names
  pub only_bay : (bays : List (Option (OpenLine F))) (bay_of : List ℕ) (call : ℕ) (side : Side) (access : Access) (at bay k : ℕ) → AreBayed bays bay_of →
      bay ≡ slice_index_or bay_of (index_of_line call side) 0 → IsOpenAt (in_bay bays k) call side access at → k ≡ bay
  only_bay bays bay_of call side access at bay k bayed named stood = at_bay (in_bay bays k) refl stood
    where
      at_bay : (file : Option (OpenLine F)) → in_bay bays k ≡ file → IsOpenAt file call side access at → k ≡ bay
      at_bay None here stood = absurd stood
      at_bay (Some o) here stood = sym (bayed k o here)
          ∙ ap (λ c. slice_index_or bay_of (index_of_line c o.side) 0) stood.0
          ∙ ap (λ s. slice_index_or bay_of (index_of_line call s) 0) stood.1 ∙ sym named

  -- the file in a bay stays
  pub kept_open : (bays : List (Option (OpenLine F))) (bay_of : List ℕ) (call : ℕ) (side : Side) (access : Access) (at : ℕ) (bay : ℕ) (file : Option (OpenLine F)) →
      in_bay bays bay ≡ file → IsOpenAt file call side access at → bay < length bays → AreBayed bays bay_of →
      OpenAfter bays (slice_set bays bay file) call side (in_bay (slice_set bays bay file) bay)
  kept_open bays bay_of call side access at bay None here is within bayed = absurd is
  kept_open bays bay_of call side access at bay (Some o) here is within bayed =
      let put = set_there bays bay (Some o) None within in
      subst (OpenAfter bays (slice_set bays bay (Some o)) call side) (sym put)
      (rw (sym is.0, sym is.1) (moved_to bays bay_of o bay (Some o) here within bayed))

  -- a line's file stands nowhere, if it doesn't in the line's bay
  pub none_stood : (bays : List (Option (OpenLine F))) (bay_of : List ℕ) (call : ℕ) (side : Side) (access : Access) (at bay k : ℕ) (was : Option (OpenLine F)) →
      in_bay bays bay ≡ was → AreBayed bays bay_of → bay ≡ slice_index_or bay_of (index_of_line call side) 0 →
      (IsOpenAt was call side access at → ⊥) → IsOpenAt (in_bay bays k) call side access at → ⊥
  none_stood bays bay_of call side access at bay k was here bayed named none stood =
      let same : in_bay bays k ≡ was = ap (in_bay bays) (only_bay bays bay_of call side access at bay k bayed named stood) ∙ here in
      none (subst (λ (file : Option (OpenLine F)). IsOpenAt file call side access at) same stood)

  pub moved_after : (bays : List (Option (OpenLine F))) (bay_of : List ℕ) (bay : ℕ) (old file : Option (OpenLine F)) →
      in_bay bays bay ≡ old → bay < length bays → AreBayed bays bay_of →
      IfSome (in_bay bays bay) (λ o. OpenAfter bays (slice_set bays bay file) o.call o.side (in_bay (slice_set bays bay file) bay))
  moved_after bays bay_of bay old file was within bayed =
      subst (λ x. IfSome x (λ o. OpenAfter bays (slice_set bays bay file) o.call o.side (in_bay (slice_set bays bay file) bay))) (sym was)
      (moved old was)
    where
      moved : (old : Option (OpenLine F)) → in_bay bays bay ≡ old →
          IfSome old (λ o. OpenAfter bays (slice_set bays bay file) o.call o.side (in_bay (slice_set bays bay file) bay))
      moved None was = tt
      moved (Some o) was = subst (OpenAfter bays (slice_set bays bay file) o.call o.side) (sym (set_there bays bay file None within))
          (moved_to bays bay_of o bay file was within bayed)

  -- what holds of a file before and after holds in its bay
  pub in_its_bay : (P : OpenLine F → Option (OpenLine F) → Type 0) (bays : List (Option (OpenLine F))) (bay : ℕ) (old file : Option (OpenLine F)) →
      in_bay bays bay ≡ old → bay < length bays → IfSome old (λ o. P o file) →
      IfSome (in_bay bays bay) (λ o. P o (in_bay (slice_set bays bay file) bay))
  in_its_bay P bays bay old file was within holds =
      subst (λ f. IfSome (in_bay bays bay) (λ o. P o f)) (sym (set_there bays bay file None within))
      (subst (λ x. IfSome x (λ o. P o file)) (sym was) holds)

  pub bayed_moved : {E : Type 0} (bays : List (Option (OpenLine F))) (bay_of : List ℕ) (bay : ℕ) (old file : Option (OpenLine F)) (result : Result ℕ E) →
      in_bay bays bay ≡ old → IsSome (in_bay bays bay) → AreBayed bays bay_of → IfSome old (λ o. FileAfter o result file) →
      AreBayed (slice_set bays bay file) bay_of
  bayed_moved {E = E} bays bay_of bay old file result was some bayed after k o there =
      elim (set_place bays bay file None k) [
        | inl s ↦ named old was (subst (λ (x : Option (OpenLine F)). IsSome x) was some) after (sym s.1 ∙ there) ∙ sym s.0
        | inr s ↦ bayed k o (sym s ∙ there)
      ]
    where
      same : (x : OpenLine F) (result : Result ℕ E) (file : Option (OpenLine F)) → FileAfter x result file → file ≡ Some o → (x.call ≡ o.call) × (x.side ≡ o.side)
      same x (Ok n) None after e = cc
      same x (Ok n) (Some now) after e = let is : now ≡ o = cc in
          (sym after.0 ∙ ap (λ (f : OpenLine F). f.call) is, sym after.1 ∙ ap (λ (f : OpenLine F). f.side) is)
      same x (Err r) file after e = let never : None ≡ Some o = sym after ∙ e in cc

      named : (old : Option (OpenLine F)) → in_bay bays bay ≡ old → IsSome old → IfSome old (λ o. FileAfter o result file) →
          file ≡ Some o → slice_index_or bay_of (index_of_line o.call o.side) 0 ≡ bay
      named None was some after e = cc
      named (Some x) was some after e = let line = same x result file after e in
          ap (λ c. slice_index_or bay_of (index_of_line c o.side) 0) (sym line.0)
          ∙ ap (λ s. slice_index_or bay_of (index_of_line x.call s) 0) (sym line.1) ∙ bayed bay x was

  -- a line without an open file is given a bay, and its file is put there
  pub given_and_put : (bays : List (Option (OpenLine F))) (bay_of : List ℕ) (file : OpenLine F) (p bay : ℕ) → p ≡ index_of_line file.call file.side → p < length bay_of →
      bay < length bays → IsFileOf bays file.call file.side None → AreBayed bays bay_of →
      AreBayed (slice_set bays bay (Some file)) (slice_set bay_of p bay) × OpenAfter bays (slice_set bays bay (Some file)) file.call file.side (Some file)
      × (in_bay (slice_set bays bay (Some file)) bay ≡ Some file)
  given_and_put bays bay_of file p bay at room within closed bayed =
      let given = bayed_elsewhere bays bay_of file.call file.side p bay at closed bayed in
      let named : bay ≡ slice_index_or (slice_set bay_of p bay) (index_of_line file.call file.side) 0 = sym (set_there bay_of p bay 0 room)
      ∙ ap (λ i. slice_index_or (slice_set bay_of p bay) i 0) at in (
        bayed_after bays (slice_set bay_of p bay) file bay named given,
        open_after_put bays (slice_set bay_of p bay) file bay named within given,
        set_there bays bay (Some file) None within,
      )

  -- a line that has no file open has none after files were closed
  pub closed_still : (old new : List (Option (OpenLine F))) (call : ℕ) (side : Side) → OnlyCloses old new → IsFileOf old call side None →
      IsFileOf new call side None
  closed_still old new call side closes closed = record {
    only = λ k o there c s. elim (closes k) [ inl e ↦ closed.only k o (sym e ∙ there) c s | inr e ↦ let none = e in cc ];
    there = tt;
  }

  -- the file in a bay stays, or is closed
  module _ (bays : List (Option (OpenLine F))) (bay : ℕ) (file : Option (OpenLine F)) (others : (file ≡ in_bay bays bay) ⊎ (file ≡ None)) where
    pub only_closes : OnlyCloses bays (slice_set bays bay file)
    only_closes k =
        elim (set_place bays bay file None k) [
          | inl s ↦ elim others [ inl e ↦ inl (s.1 ∙ e ∙ ap (in_bay bays) (sym s.0)) | inr e ↦ inr (s.1 ∙ e) ]
          | inr s ↦ inl s
        ]

    pub bayed_still : (bay_of : List ℕ) → AreBayed bays bay_of → AreBayed (slice_set bays bay file) bay_of
    bayed_still bay_of bayed k o there = elim (only_closes k) [ inl e ↦ bayed k o (sym e ∙ there) | inr e ↦ let none = e in cc ]

    pub none_open : (bay_of : List ℕ) (call : ℕ) (side : Side) → bay < length bays → AreBayed bays bay_of →
        bay ≡ slice_index_or bay_of (index_of_line call side) 0 → IfSome file (λ o. o.call ≡ call → o.side ≡ side → ⊥) →
        IsFileOf (slice_set bays bay file) call side None
    none_open bay_of call side within bayed named other = record {
      only = λ k o there c s. absurd
          (refused file other o (sym (set_there bays bay file None within) ∙ ap (in_bay (slice_set bays bay file)) (sym (here k o there c s)) ∙ there) c s);
      there = tt;
    }
      where
        here : (k : ℕ) (o : OpenLine F) → in_bay (slice_set bays bay file) k ≡ Some o → o.call ≡ call → o.side ≡ side → k ≡ bay
        here k o there c s = let at = bayed_still bay_of bayed k o there in cc

        refused : (file : Option (OpenLine F)) → IfSome file (λ o. o.call ≡ call → o.side ≡ side → ⊥) → (o : OpenLine F) → file ≡ Some o → o.call ≡ call →
            o.side ≡ side → ⊥
        refused None other o e c s = cc
        refused (Some x) other o e c s = let same : x ≡ o = cc in other (ap (λ (y : OpenLine F). y.call) same ∙ c) (ap (λ (y : OpenLine F). y.side) same ∙ s)

  -- a line's bay, and what was read there
  pub record IsBayOf (bays : List (Option (OpenLine F))) (bay_of : List ℕ) (call : ℕ) (side : Side) (bay : ℕ) (was : Option (OpenLine F)) : Type 0 where
    pub within : bay < length bays
    pub here : in_bay bays bay ≡ was
    pub named : bay ≡ slice_index_or bay_of (index_of_line call side) 0

  pub bay_read : (bays : List (Option (OpenLine F))) (bay_of : List ℕ) (call : ℕ) (side : Side) (p bay : ℕ) (was : Option (OpenLine F)) → length bays ≡ 256 →
      length bay_of ≡ 16388 → bay < 256 → p < 16388 → p ≡ index_of_line call side →
      bay ≡ slice_index_or bay_of p bay → was ≡ slice_index_or bays bay was → IsBayOf bays bay_of call side bay was
  bay_read bays bay_of call side p bay was count places low room at read there = record {
    within = omega (arith, count);
    here = sym (get_or_read_under bays bay 256 was None there low (sym count));
    named = get_or_read_under bay_of p 16388 bay 0 read room (sym places) ∙ ap (λ i. slice_index_or bay_of i 0) at;
  }

  pub kept_or_closed : {here was file : Option (OpenLine F)} → here ≡ was → (file ≡ was) ⊎ (file ≡ None) → (file ≡ here) ⊎ (file ≡ None)
  kept_or_closed e others = elim others [ inl k ↦ inl (k ∙ sym e) | inr n ↦ inr n ]

  -- a line's file was opened or found, and then moved on or closed
  pub open_twice : (old mid new : List (Option (OpenLine F))) (o : OpenLine F) (file : Option (OpenLine F)) (call : ℕ) (side : Side) → o.call ≡ call → o.side ≡ side →
      OpenAfter old mid call side (Some o) → OpenAfter mid new o.call o.side file → OpenAfter old new call side file
  open_twice old mid new o file call side same_call same_side first second = record {
    this = rw (sym same_call, sym same_side) second.this;
    others = λ k. elim (second.others k) [
      | inl kept ↦ elim (first.others k) [
        | inl was ↦ inl (kept ∙ was)
        | inr (inl none) ↦ inr (inl (kept ∙ none))
        | inr (inr opened) ↦ inr (inr (kept ∙ opened ∙ sym (second.this.only k o (kept ∙ opened) refl refl)))
      ]
      | inr closed ↦ inr closed
    ];
    number = second.number ∙ first.number;
  }

  -- the file in one bay changes
  pub others_sit : (bays : List (Option (OpenLine F))) (bay : ℕ) (file : Option (OpenLine F)) → OthersSit bays (slice_set bays bay file) bay
  others_sit bays bay file k other = elim (set_place bays bay file None k) [ inl s ↦ absurd (other s.0) | inr s ↦ s ]
