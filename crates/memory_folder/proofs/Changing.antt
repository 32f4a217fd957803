-- What the operations of a folder in memory do to its files as names and octets.
use Rattle.std.specs.Prelude.{◌≡◌, ◌≢◌, ◌⊎◌, ℕ, ◌-◌, ◌<◌, ◌^◌, Bool, true, false, List, [], ◌∷◌, ◌++◌, length, Option, Some, None, refl, slice_index_or, slice_set}
use Rattle.std.specs.List.{position}
use Rattle.std.specs.Option.{option_map}
use Rattle.std.proofs.Common.{arith, zero, suc, ap, sym, subst, inl, inr, ◌∙◌, length-append}
use Rattle.std.proofs.lemmas.Bool.{cases_lt}
use Rattle.std.proofs.lemmas.Cmp.{nat_list_eq_equiv}
use Rattle.std.proofs.lemmas.List.{get_or-set_same, get_or-set_other, get_or_append_left, get_or_past, get_or-append_right}
use Rattle.std.proofs.lemmas.List.Quantifiers.{position-Some}
use Rattle.trau_files.specs.declared.trunk.claims.FileIdentity.{FileIdentity}
use Rattle.trau_files.specs.Disk.{Changes, IsNew, OpensFile, RemovesFile, Stays}
use Rattle.memory_folder.specs.Memory.{StoredFile, bounded, disk_of, leads, no_file, numbered, octets_on}
use Rattle.memory_folder.proofs.Places.{added, none_before, number_of, position_push, position_set}
use Rattle.memory_folder.specs.Sizes.{bounded_is, bounded_none}

-- nothing changed
pub stays : (files : List StoredFile) → Stays (disk_of files) (disk_of files)
stays files = (λ name. refl, λ f. refl)

same_or_other : (a b : ℕ) → (a ≡ b) ⊎ (a ≢ b)
same_or_other zero zero = inl refl
same_or_other zero (suc b) = inr (λ e. omega (arith, e))
same_or_other (suc a) zero = inr (λ e. omega (arith, e))
same_or_other (suc a) (suc b) = elim (same_or_other a b) [ inl e ↦ inl (ap suc e) | inr other ↦ inr (λ e. other (omega (arith, e))) ]

other_octets : (files : List StoredFile) (i : ℕ) (f : StoredFile) (device inode : ℕ) → record { device = device; inode = inode } ≢ numbered i →
    octets_on (slice_set files i f) device inode ≡ octets_on files device inode
other_octets files i f zero inode other = ap (λ (x : StoredFile). bounded x.octets) (get_or-set_other files i inode f no_file (λ same. other (ap numbered same)))
other_octets files i f (suc device) inode other = refl

-- a file has other octets
pub changes : (files : List StoredFile) (i : ℕ) (octets : List ℕ) → i < length files → length octets < 2 ^ 63 →
    Changes (disk_of files) (disk_of (slice_set files i (record (slice_index_or files i no_file) { octets = octets }))) (numbered i) octets
changes files i octets within small =
    let f : StoredFile = record (slice_index_or files i no_file) { octets = octets } in
    record {
      names = λ name. ap (option_map numbered) (position_set (leads name) files i f refl);
      this = ap (λ (x : StoredFile). bounded x.octets) (get_or-set_same files i f no_file within) ∙ bounded_is octets small;
      others = λ g other. other_octets files i f g.device g.inode other;
    }

-- a name led to a file that is there
pub opens_there : (files : List StoredFile) (name : List ℕ) (makes : Bool) (i : ℕ) → position (leads name) files ≡ Some i →
    OpensFile (disk_of files) (disk_of files) name makes (record { file = numbered i; at = 0 })
opens_there files name makes i led = record {
  start = refl;
  leads = ap (option_map numbered) led;
  from = inl (ap (option_map numbered) led);
  names = λ other f leads. leads;
  no_others = λ other f leads. inl leads;
  octets = λ f. refl;
}

new_octets : (files : List StoredFile) (f : StoredFile) (device inode : ℕ) → f.octets ≡ [] → octets_on (files ++ f ∷ []) device inode ≡ octets_on files device inode
new_octets files f zero inode none = ap bounded (same inode)
  where
    past : (k : ℕ) → (slice_index_or (f ∷ []) k no_file).octets ≡ []
    past zero = none
    past (suc k) = refl

    same : (k : ℕ) → (slice_index_or (files ++ f ∷ []) k no_file).octets ≡ (slice_index_or files k no_file).octets
    same k = elim (cases_lt k (length files)) [
      | inl below ↦ ap (λ (x : StoredFile). x.octets) (get_or_append_left files (f ∷ []) no_file k below)
      | inr from ↦ ap (λ (x : StoredFile). x.octets) (get_or-append_right files (f ∷ []) (length files) k no_file refl from) ∙ past (k - length files)
          ∙ ap (λ (x : StoredFile). x.octets) (sym (get_or_past files k no_file from))
    ]
new_octets files f (suc device) inode none = refl

-- a name leads to the file that it led to, or to one that was added
led_or_added : (p : StoredFile → Bool) (files : List StoredFile) (f : StoredFile) (k : ℕ) → position p (files ++ f ∷ []) ≡ Some k →
    (before : Option ℕ) → position p files ≡ before → (before ≡ Some k) ⊎ (k ≡ length files)
led_or_added p files f k led (Some i) is = inl (sym (position_push p files i f is) ∙ led)
led_or_added p files f k led None none =
    let at = position-Some p (files ++ f ∷ []) k no_file led in
    elim (cases_lt k (length files)) [
      | inl below ↦
          let passes : p (slice_index_or files k no_file) ≡ true = sym (ap p (get_or_append_left files (f ∷ []) no_file k below)) ∙ at.1 in
          let fails : p (slice_index_or files k no_file) ≡ false = none_before p files none k below in
          let no : ⊥ = cc in absurd no
      | inr from ↦ inr (omega (arith, at.0, length-append files (f ∷ []), from))
    ]

-- an empty file was added for a name that led to none
pub opens_new : (files : List StoredFile) (name : List ℕ) (makes : Bool) (f : StoredFile) → makes ≡ true → position (leads name) files ≡ None →
    f ≡ record { name = name; octets = [] } → OpensFile (disk_of files) (disk_of (files ++ f ∷ [])) name makes (record { file = numbered (length files); at = 0 })
opens_new files name makes f may none is =
    let here : leads name f ≡ true = ap (leads name) is ∙ nat_list_eq_equiv.refl name in
    let fresh : IsNew (disk_of files) (numbered (length files)) = (
      λ other led. let one = number_of _ _ led in let at = position-Some (leads other) files one.0 no_file one.1 in
          let same : one.0 ≡ length files = ap (λ (g : FileIdentity). g.inode) one.2 in omega (arith, at.0, same),
      ap (λ (x : StoredFile). bounded x.octets) (get_or_past files (length files) no_file (omega arith)) ∙ bounded_none,
    ) in
    record {
      start = refl;
      leads = ap (option_map numbered) (added (leads name) files f none here);
      from = inr (may, fresh);
      names = λ other g led. let one = number_of _ _ led in ap (option_map numbered) (position_push (leads other) files one.0 f one.1) ∙ ap Some one.2;
      no_others = λ other g led. let one = number_of _ _ led in elim (led_or_added (leads other) files f one.0 one.1 (position (leads other) files) refl) [
        | inl there ↦ inl (ap (option_map numbered) there ∙ ap Some one.2)
        | inr last ↦ inr (subst (λ (x : FileIdentity). IsNew (disk_of files) x) (ap numbered (sym last) ∙ one.2) fresh)
      ];
      octets = λ g. new_octets files f g.device g.inode (ap (λ (x : StoredFile). x.octets) is);
    }

-- no name is removed
pub removes_none : (files : List StoredFile) (name : List ℕ) → RemovesFile (disk_of files) (disk_of files) name
removes_none files name = record { names = λ other g leads_other apart. leads_other; no_others = λ other g leads_other. leads_other; octets = λ g. inl refl }
