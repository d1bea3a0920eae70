-- What the image of a volume is where its log was made new: there are copies of the log, and they mark nothing.
use Rattle.std.proofs.Common.{◌≡◌, ◌∙◌, ℕ, ◌<◌, Bool, true, false, Option, Some, None, List, [], length, refl, sym, ap, subst, arith}
use Rattle.std.specs.Prelude.{◌==◌, ◌&&◌, nat_lt, is_some, Contains}
use Rattle.std.specs.List.{All}
use Rattle.std.proofs.lemmas.Bool.{eqb-true}
use Rattle.std.proofs.lemmas.List.Elements.{All-weaker}
use Rattle.vx_base.specs.Blocks.{Contents}
use Rattle.vx_base.specs.Named.{Word}
use Rattle.vx_mask.specs.Mask.{has}
use Rattle.vx_mask.proofs.MaskLemmas.{has-zero}
use Rattle.vx_block.specs.Regions.{region_count}
use Rattle.vx_mapfmt.specs.Bits.{marks}
use Rattle.vx_piece.specs.Seen.{Seen}
use Rattle.vx_runs.specs.Run.{run_contents}
use Rattle.vx_pages.specs.declared.local_piece.LocalPiece.{Ghosts}
use Rattle.vx_pages.specs.Sector.{KeepsPiece}
use Rattle.vx_carve.specs.Together.{Holds}
use Rattle.vx_fronts.specs.Rests.{IsTelling}
use Rattle.vx_maps.specs.Creating.{AllTell}
use Rattle.vx_maps.specs.Going.{CutCopiesGo}
use Rattle.vx_maps.specs.Narrowing.{is_marked_on}
use Rattle.vx_maps.specs.Stores.{store_seen}
use Rattle.vx_maps.specs.Wholes.{store_copies}
use Rattle.vx_maps.specs.declared.store.MapStore.{MapStore}
use Rattle.vx_config_parts.specs.declared.plex.Plex.{Plex}
use Rattle.vx_config_parts.specs.declared.vol.Vol.{Vol}
use Rattle.vx_objects.specs.declared.config.Config.{Config}
use Rattle.vx_image.proofs.Members.{is_in}
use Rattle.vx_image.proofs.PlexMembers.{IsIn}
use Rattle.vx_image.specs.Bytes.{Sectors, image_of, log_copies}
use Rattle.vx_image.specs.Image.{LogCopy}
use Rattle.vx_image.specs.UsedPlexes.{used_logs}
use Rattle.vx_volume.specs.declared.log.VolumeLog.TheVariants.{Maps}
use Rattle.vx_lending.specs.Form.{IsFormOf}
use Rattle.vx_lending.specs.Logs.{IsFreshStore, marked_maps}
use Rattle.vx_lending.specs.Pieces.{copy_pieces}
use Rattle.vx_lending.specs.Taken.{AreTakenCopies, log_sectors}
use Rattle.vx_lending.specs.declared.form.VolumeForm.{VolumeForm}
use Rattle.vx_volume_laws.specs.Contents.{AreSectorsOf}
use Rattle.vx_volume_laws.specs.Lying.{IsLogOver}
use Rattle.vx_volume_laws.specs.Recorded.{IsNewLog}
use Rattle.vx_volume_laws.proofs.LeftLogs.{log_new, log_over}
use Rattle.vx_volume_laws.proofs.OpenedImages.{same_item}
use Rattle.vx_group_start.proofs.Together.{copies_told, holding}
use Rattle.vx_group_volumes.proofs.NearerCopies.{LieOnLayouts, copy_of_image, image_copy, later_lie, taken_lie}
use Rattle.vx_group_volumes.proofs.Taken.{layout_of}
use Rattle.vx_stages.specs.Logged.{HasEmptyLog}

-- a volume that has a log plex has a DCO
some_dco : (dco : Option Word) (c : Config) (good : ℕ) (vol : Word) (p : Plex) → IsIn (used_logs dco c good false vol) p → is_some dco ≡ true
some_dco None c good vol p there = absurd there
some_dco (Some dco) c good vol p there = refl

not_empty : {X : Type 0} (xs : List X) (x : X) → Contains xs x → (length xs == 0) ≡ false
not_empty xs x (k, lt, at) = by (length xs == 0) refl
  where
    by : (b : Bool) → (length xs == 0) ≡ b → (length xs == 0) ≡ false
    by true e = let none = eqb-true (length xs) 0 e in absurd (omega (arith, none, lt))
    by false e = e

-- no map is among those of the empty mask
none_marked : (k : ℕ) → marked_maps 0 k ≡ false
none_marked k = by (nat_lt k 32) (has-zero k)
  where
    by : (b : Bool) → has 0 k ≡ false → (b && has 0 k) ≡ false
    by true e = e
    by false e = refl

-- A log was made new on copies that were taken for the form of the volume, and they told what they held. What it holds now, the sectors do.
module _ {P : Type 0} {ghosts : Ghosts P} (c : Config) (good : ℕ) (v : Vol) (form : VolumeForm) (is : IsFormOf c good v false form) (numbers : List ℕ) (copies : List (List Seen)) (store : MapStore P ghosts)
    (taken : AreTakenCopies numbers form.logs.items (log_sectors form.shape.geometry) copies) (cut : CutCopiesGo KeepsPiece copies (store_copies ghosts.seen store)) (tell : AllTell copies) (fresh : IsFreshStore ghosts.seen form.shape.geometry 0 copies store)
    (contents : ℕ → Contents) (hold : All (Holds contents) (copy_pieces (store_copies ghosts.seen store))) (bytes : Sectors) (sectors : AreSectorsOf good numbers contents bytes)
    (log : Plex) (there : Contains (used_logs v.dco c good false v.name) log) where
  abbrev later : List (List Seen)
  later = store_copies ghosts.seen store

  abbrev count : ℕ
  count = log_sectors form.shape.geometry

  abbrev regions : ℕ
  regions = region_count form.shape.geometry.length form.shape.geometry.region

  among : IsIn (used_logs v.dco c good false v.name) log
  among = is_in (used_logs v.dco c good false v.name) log there

  regions_are : regions ≡ region_count v.len v.region
  regions_are = ap (λ n. region_count n form.shape.geometry.region) is.shape_is.length_is ∙ ap (λ n. region_count v.len n) is.shape_is.region_is

  lie : LieOnLayouts numbers form.logs.items count later
  lie = later_lie copies later cut numbers form.logs.items count (taken_lie numbers form.logs.items count copies taken)

  told : AllTell later
  told = copies_told later (All-weaker (Holds contents) IsTelling (holding contents) (copy_pieces later) hold)

  -- the log shows nothing, ..
  blank : IsNewLog form.shape.geometry 0 (store_seen ghosts.seen store) later
  blank = log_new form.shape.geometry 0 copies store tell fresh

  -- .. and what its copies mark
  over : 0 < regions → IsLogOver (store_seen ghosts.seen store) regions later
  over some = log_over form.shape.geometry (Maps store) fresh.geometry_is some

  unmarked : (n r k : ℕ) → n < length later → r < regions → is_marked_on regions later n k r ≡ false
  unmarked n r k inside low =
      ap (λ (x : List Seen). marks regions (run_contents x) k r) (same_item [] later n)
      ∙ sym ((over (omega (arith, low))).shows blank.tells n r k inside)
      ∙ blank.shows r n k low
      ∙ none_marked k

  -- ---- the image

  some_copy : (length (log_copies v.dco c good bytes v) == 0) ≡ false
  some_copy =
      let r = layout_of c (used_logs v.dco c good false v.name) form.logs.items log is.logs among in
      let laid = r.1 in
      let long = lie.long in
      let inside : r.0 < length later = omega (arith, laid, long) in
      let headed = ap (λ (x : List Seen). run_contents x 0) (same_item [] later r.0) ∙ blank.heads told r.0 inside in
      let copy = image_copy c good v form is numbers later lie contents hold bytes sectors r.0 (record { inside = inside; headed = headed }) in
      not_empty (log_copies v.dco c good bytes v) copy.copy copy.there

  none_marks : (x : LogCopy) → Contains (log_copies v.dco c good bytes v) x → (r k : ℕ) → r < region_count v.len v.region → x r k ≡ false
  none_marks x one r k low =
      let copy = copy_of_image c good v form is numbers later lie contents hold bytes sectors (some_dco v.dco c good v.name log among) x (is_in (log_copies v.dco c good bytes v) x one) in
      sym (copy.shows k r) ∙ unmarked copy.copy r k copy.counted.inside (subst (λ n. r < n) (sym regions_are) low)

  pub log_is_empty : HasEmptyLog (image_of c good bytes v)
  log_is_empty = record { some = some_copy; nothing = none_marks }
