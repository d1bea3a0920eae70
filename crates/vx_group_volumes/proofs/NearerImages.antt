-- Where the copies of the log of a volume come nearer to one another, so does its image.
use Rattle.std.proofs.Common.{◌≡◌, inl, ℕ, ◌<◌, Bool, true, false, Option, Some, None, List, [], ◌∷◌, length, refl, sym, ap, ◌∙◌, subst, arith}
use Rattle.std.specs.Prelude.{◌==◌, is_some}
use Rattle.std.specs.List.{All, list_all, list_any}
use Rattle.std.proofs.lemmas.Bool.{eqb-true, false≢true}
use Rattle.vx_base.specs.Blocks.{Contents}
use Rattle.vx_base.specs.Named.{Word}
use Rattle.vx_block.specs.Regions.{region_count}
use Rattle.vx_piece.specs.Seen.{Seen}
use Rattle.vx_carve.specs.Together.{Holds}
use Rattle.vx_config_parts.specs.declared.vol.Vol.{Vol}
use Rattle.vx_objects.specs.declared.config.Config.{Config}
use Rattle.vx_image.proofs.PlexMembers.{IsIn}
use Rattle.vx_image.specs.Image.{LogCopy, PlexImage}
use Rattle.vx_image.specs.Bytes.{Sectors, log_copies, relation_maps}
use Rattle.vx_image.proofs.Members.{all_from_each, any_from_one, each_from_all, is_in, one_from_any}
use Rattle.vx_lending.specs.declared.form.VolumeForm.{VolumeForm}
use Rattle.vx_lending.specs.Form.{IsFormOf}
use Rattle.vx_lending.specs.Logs.{log_header}
use Rattle.vx_lending.specs.Pieces.{copy_pieces}
use Rattle.vx_lending.specs.Taken.{log_sectors}
use Rattle.vx_volume_laws.specs.Contents.{AreSectorsOf}
use Rattle.vx_group_volumes.specs.LogLaws.{EachCopyNarrows}
use Rattle.vx_maps.specs.Narrowing.{AreNarrowed, IsCounted, IsMarkedByEach, IsMarkedBySome}
use Rattle.vx_group_volumes.proofs.NearerCopies.{HasCopy, IsInImage, LieOnLayouts, copy_of_image, image_copy, later_lie, taken_lie}
use Rattle.vx_group_volumes.proofs.NearerPlexes.{same_plexes}

-- ---- lists of copies

-- the second list is as the first: empty only where that is, and it marks all that all of the first do, and only what some of them do
record AreNearer (xs ys : List LogCopy) : Type 0 where
  pub none : (length ys == 0) ≡ (length xs == 0)
  pub all : (r k : ℕ) → list_all (λ c. c r k) xs ≡ true → list_all (λ c. c r k) ys ≡ true
  pub some : (r k : ℕ) → list_any (λ c. c r k) ys ≡ true → list_any (λ c. c r k) xs ≡ true

same_nearer : (xs ys : List LogCopy) → ys ≡ xs → AreNearer xs ys
same_nearer xs ys same = subst (λ (zs : List LogCopy). AreNearer xs zs) (sym same) (record { none = refl; all = λ r k e. e; some = λ r k e. e })

-- two lists are empty together
empty_too : (xs ys : List LogCopy) → ((x : LogCopy) → IsIn xs x → (y : LogCopy) × IsIn ys y) → ((y : LogCopy) → IsIn ys y → (x : LogCopy) × IsIn xs x) → (length ys == 0) ≡ (length xs == 0)
empty_too [] [] to back = refl
empty_too [] (y ∷ ys) to back = let r = back y (inl refl) in absurd r.1
empty_too (x ∷ xs) [] to back = let r = to x (inl refl) in absurd r.1
empty_too (x ∷ xs) (y ∷ ys) to back = not_empty (length (y ∷ ys)) (omega arith) ∙ sym (not_empty (length (x ∷ xs)) (omega arith))
  where
    not_empty : (n : ℕ) → 0 < n → (n == 0) ≡ false
    not_empty n some = by (n == 0) refl
      where
        by : (b : Bool) → (n == 0) ≡ b → (n == 0) ≡ false
        by true e = let none = eqb-true n 0 e in absurd (omega (arith, none, some))
        by false e = e

-- ---- those of an image

module _ (c : Config) (good : ℕ) (v : Vol) (form : VolumeForm) (is : IsFormOf c good v false form) (numbers : List ℕ) (copies later : List (List Seen))
    (narrow : AreNarrowed (log_header form.shape.geometry) (region_count form.shape.geometry.length form.shape.geometry.region) copies later)
    (lie : LieOnLayouts numbers form.logs.items (log_sectors form.shape.geometry) copies) (lie_then : LieOnLayouts numbers form.logs.items (log_sectors form.shape.geometry) later)
    (old new : ℕ → Contents) (hold : All (Holds old) (copy_pieces copies)) (hold_then : All (Holds new) (copy_pieces later))
    (before after : Sectors) (was : AreSectorsOf good numbers old before) (now : AreSectorsOf good numbers new after) where
  abbrev header : List ℕ
  header = log_header form.shape.geometry

  abbrev regions : ℕ
  regions = region_count form.shape.geometry.length form.shape.geometry.region

  abbrev first : List LogCopy
  first = log_copies v.dco c good before v

  abbrev then : List LogCopy
  then = log_copies v.dco c good after v

  log_nearer : is_some v.dco ≡ true → AreNearer first then
  log_nearer some = record { none = empty_too first then has_new has_old; all = all_mark; some = some_marks }
    where
      was_copy : (x : LogCopy) → IsIn first x → HasCopy c good v form is numbers copies lie old hold before was x
      was_copy x there = copy_of_image c good v form is numbers copies lie old hold before was some x there

      now_copy : (x : LogCopy) → IsIn then x → HasCopy c good v form is numbers later lie_then new hold_then after now x
      now_copy x there = copy_of_image c good v form is numbers later lie_then new hold_then after now some x there

      was_image : (n : ℕ) → IsCounted header copies n → IsInImage c good v form is numbers copies lie old hold before was n
      was_image n counted = image_copy c good v form is numbers copies lie old hold before was n counted

      now_image : (n : ℕ) → IsCounted header later n → IsInImage c good v form is numbers later lie_then new hold_then after now n
      now_image n counted = image_copy c good v form is numbers later lie_then new hold_then after now n counted

      has_new : (x : LogCopy) → IsIn first x → (y : LogCopy) × IsIn then y
      has_new x there =
          let h = was_copy x there in
          let m = narrow.stays h.copy h.counted in
          let i = now_image m.0 m.1 in
          (i.copy, is_in then i.copy i.there)

      has_old : (y : LogCopy) → IsIn then y → (x : LogCopy) × IsIn first x
      has_old y there =
          let h = now_copy y there in
          let m = narrow.stood h.copy h.counted in
          let i = was_image m.0 m.1 in
          (i.copy, is_in first i.copy i.there)

      each_first : (k r : ℕ) → list_all (λ c. c r k) first ≡ true → IsMarkedByEach header regions copies k r
      each_first k r all n counted = let i = was_image n counted in i.shows k r ∙ each_from_all (λ (x : LogCopy). x r k) first i.copy all i.there

      all_then : (k r : ℕ) → IsMarkedByEach header regions later k r → (y : LogCopy) → IsIn then y → y r k ≡ true
      all_then k r each y there = let h = now_copy y there in sym (h.shows k r) ∙ each h.copy h.counted

      all_mark : (r k : ℕ) → list_all (λ c. c r k) first ≡ true → list_all (λ c. c r k) then ≡ true
      all_mark r k all = all_from_each (λ (x : LogCopy). x r k) then (λ y there. all_then k r (narrow.all k r (each_first k r all)) y (is_in then y there))

      some_then : (k r : ℕ) (y : LogCopy) → IsIn then y → y r k ≡ true → IsMarkedBySome header regions later k r
      some_then k r y there marked = let h = now_copy y there in (h.copy, h.counted, h.shows k r ∙ marked)

      any_first : (k r : ℕ) → IsMarkedBySome header regions copies k r → list_any (λ c. c r k) first ≡ true
      any_first k r (n, counted, marked) = let i = was_image n counted in any_from_one (λ (x : LogCopy). x r k) first i.copy i.there (sym (i.shows k r) ∙ marked)

      some_marks : (r k : ℕ) → list_any (λ c. c r k) then ≡ true → list_any (λ c. c r k) first ≡ true
      some_marks r k any = let y = one_from_any (λ (x : LogCopy). x r k) then any in any_first k r (narrow.some k r (some_then k r y.0 (is_in then y.0 y.1) y.2))

  none_same : (dco : Option Word) → is_some dco ≡ false → log_copies dco c good after v ≡ log_copies dco c good before v
  none_same None none = refl
  none_same (Some dco) none = absurd (false≢true (sym none))

  copies_nearer : AreNearer first then
  copies_nearer = by (is_some v.dco) refl
    where
      by : (b : Bool) → is_some v.dco ≡ b → AreNearer first then
      by true some = log_nearer some
      by false none = same_nearer first then (none_same v.dco none)

-- ---- the image

pub copy_narrows : EachCopyNarrows
copy_narrows c good v form is numbers have numbered copies later taken goes narrow old new hold hold_then stay before after was now idle =
    let lie = taken_lie numbers form.logs.items (log_sectors form.shape.geometry) copies taken in
    let lie_then = later_lie copies later goes numbers form.logs.items (log_sectors form.shape.geometry) lie in
    let nearer = copies_nearer c good v form is numbers copies later narrow lie lie_then old new hold hold_then before after was now in
    record {
      same =
          ap (λ (ps : List PlexImage). record { state = v.state; length = v.len; region = v.region; plexes = ps; snaps = relation_maps c.snaps v.name; copies = log_copies v.dco c good after v })
          (same_plexes c good v form is numbers have numbered copies taken old new stay before after was now idle);
      none = nearer.none;
      all = λ r k low e. nearer.all r k e;
      some = λ r k low e. nearer.some r k e;
    }
