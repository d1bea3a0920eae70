-- The log of a volume that was loaded, and has gone on since, leaves copies that count for its image.
use Rattle.std.proofs.Common.{◌≡◌, ◌∙◌, ℕ, zero, suc, ◌*◌, ◌/◌, ◌<◌, true, false, List, [], ◌∷◌, length, refl, sym, ap, subst, inl, arith}
use Rattle.std.specs.Prelude.{Contains, slice_index_or}
use Rattle.std.specs.List.{All}
use Rattle.std.specs.Str.{bytes_eq}
use Rattle.std.proofs.lemmas.Bool.{and_from}
use Rattle.vx_base.specs.Blocks.{Contents}
use Rattle.vx_base.proofs.NamedLemmas.{bytes_eq_self}
use Rattle.vx_block.specs.Regions.{region_count}
use Rattle.vx_block.specs.declared.geometry.Geometry.{Geometry}
use Rattle.vx_mapfmt.specs.Bits.{is_headed}
use Rattle.vx_mapfmt.specs.Header.{maps_header}
use Rattle.vx_mapfmt.specs.Sizes.{map_bytes_of}
use Rattle.vx_piece.specs.Seen.{Seen}
use Rattle.vx_runs.specs.Run.{run_contents}
use Rattle.vx_carve.specs.Together.{Holds}
use Rattle.vx_pages.specs.declared.local_piece.LocalPiece.{Ghosts}
use Rattle.vx_maps.specs.Creating.{AllBeginWith, AllTell, BeginsWith, EachBegins, heads_tell}
use Rattle.vx_maps.specs.Loading.{copy_at}
use Rattle.vx_maps.specs.Wholes.{store_copies}
use Rattle.vx_maps.proofs.Contents.{store_begins, store_count, store_some, tells_begin}
use Rattle.vx_config_parts.specs.declared.plex.Plex.{Plex}
use Rattle.vx_config_parts.specs.declared.vol.Vol.{Vol}
use Rattle.vx_objects.specs.declared.config.Config.{Config}
use Rattle.vx_image.specs.Bytes.{Sectors, image_of, plex_contents, plex_marks}
use Rattle.vx_image.specs.Image.{LogCopy}
use Rattle.vx_image.specs.UsedPlexes.{used_logs}
use Rattle.vx_image.proofs.PlexMembers.{IsIn}
use Rattle.vx_volume.specs.declared.log.VolumeLog.{VolumeLog}
use Rattle.vx_volume.specs.declared.log.VolumeLog.TheVariants.{Absent, Maps}
use Rattle.vx_volume.specs.Log.{LogGoes}
use Rattle.vx_lending.specs.Form.{IsFormOf, IsLayoutOf}
use Rattle.vx_lending.specs.Logs.{IsLoadedLog, log_copies, log_header}
use Rattle.vx_lending.specs.Pieces.{copy_pieces}
use Rattle.vx_lending.specs.Taken.{log_sectors}
use Rattle.vx_lending.specs.declared.form.VolumeForm.{VolumeForm}
use Rattle.vx_lending.proofs.NewLogs.{heads_still}
use Rattle.vx_lending.proofs.Zips.{zip_length}
use Rattle.vx_volume_laws.specs.Contents.{AreSectorsOf}
use Rattle.vx_volume_laws.specs.Places.{LieOnLogs}
use Rattle.vx_volume_laws.proofs.Configurations.{volume_kept}
use Rattle.vx_volume_laws.proofs.LeftCopies.{HoldsPlex, copies_tell, used_held}
use Rattle.vx_volume_laws.proofs.Loaded.{copy_in}
use Rattle.vx_volume_laws.proofs.OpenedImages.{same_item}

-- ---- what copies begin with

heads_all : (xs : List (List Seen)) → AllTell xs → ((n : ℕ) → n < length xs → 0 < length (copy_at xs n)) → heads_tell xs ≡ true
heads_all [] tell some = refl
heads_all (x ∷ xs) tell some = and_from _ _ (tells_begin x tell.0 (some 0 (omega arith))) (heads_all xs tell.1 (λ n lt. some (suc n) (omega (arith, lt))))

begins_at : (bytes : List ℕ) (xs : List (List Seen)) (n : ℕ) → EachBegins bytes xs → n < length xs → BeginsWith bytes (copy_at xs n)
begins_at bytes [] n each lt = absurd (omega (arith, lt))
begins_at bytes (x ∷ xs) zero each lt = each.0
begins_at bytes (x ∷ xs) (suc n) each lt = begins_at bytes xs n each.1 (omega (arith, lt))

-- each copy of a log begins with its header, where all tell what they hold
headed_begins : {P : Type 0} {ghosts : Ghosts P} (header : List ℕ) (log : VolumeLog P ghosts) → AllBeginWith header (log_copies ghosts.seen log) → AllTell (log_copies ghosts.seen log) →
    (n : ℕ) → n < length (log_copies ghosts.seen log) → run_contents (slice_index_or (log_copies ghosts.seen log) n []) 0 ≡ header
headed_begins header Absent headed tell n lt = absurd (omega (arith, lt))
headed_begins {ghosts = ghosts} header (Maps store) headed tell n lt =
    let copies = store_copies ghosts.seen store in
    let long = store_count store in
    let heads = heads_all copies tell (λ m few. store_some store m (omega (arith, few, long))) in
    ap (λ (x : List Seen). run_contents x 0) (sym (same_item [] copies n))
    ∙ (store_begins store n (omega (arith, lt, long)) header).0 (begins_at header copies n (headed heads) lt)

-- so do those of a log that was loaded
pub loaded_headed : {P : Type 0} {ghosts : Ghosts P} (geometry : Geometry) (old : List (List Seen)) (log : VolumeLog P ghosts) → IsLoadedLog ghosts.seen geometry old log → AllBeginWith (log_header geometry) (log_copies ghosts.seen log)
loaded_headed geometry old Absent is = λ told. tt
loaded_headed geometry old (Maps store) is = is.1.heads

-- and those of one that has gone on, since its header is not written again
pub still_headed : {P : Type 0} {ghosts : Ghosts P} (header : List ℕ) (old new : VolumeLog P ghosts) → LogGoes ghosts.seen old new → AllBeginWith header (log_copies ghosts.seen old) → AllBeginWith header (log_copies ghosts.seen new)
still_headed header Absent Absent goes headed = headed
still_headed header Absent (Maps new) goes headed = absurd goes
still_headed header (Maps old) Absent goes headed = absurd goes
still_headed header (Maps old) (Maps new) goes headed = heads_still header old new goes.1 headed

-- ---- a copy that counts

first_in : {A : Type 0} (xs : List A) → 0 < length xs → (x : A) × IsIn xs x
first_in [] some = absurd (omega (arith, some))
first_in (x ∷ xs) some = (x, inl refl)

-- a log has sectors
some_sectors : (geometry : Geometry) → 0 < log_sectors geometry
some_sectors geometry = by (region_count geometry.length geometry.region)
  where
    by : (regions : ℕ) → 0 < 35 * (map_bytes_of regions / 512)
    by regions = omega arith

module _ {P : Type 0} {ghosts : Ghosts P} (c : Config) (good : ℕ) (v : Vol) (form : VolumeForm) (is : IsFormOf c good v false form) (numbers : List ℕ) (log : VolumeLog P ghosts) (headed : AllBeginWith (log_header form.shape.geometry) (log_copies ghosts.seen log))
    (on : LieOnLogs numbers form.logs.items (log_sectors form.shape.geometry) (log_copies ghosts.seen log)) (contents : ℕ → Contents) (hold : All (Holds contents) (copy_pieces (log_copies ghosts.seen log))) (bytes : Sectors) (sectors : AreSectorsOf good numbers contents bytes) where
  -- a log plex that is used begins with the header
  used_headed : (q : Plex) → IsIn (used_logs v.dco c good false v.name) q → is_headed v.len v.region (plex_contents c bytes q) ≡ true
  used_headed q used =
      let held : HoldsPlex c good v false form is numbers (log_copies ghosts.seen log) on contents hold c good v (volume_kept c good v) bytes sectors q =
      used_held c good v false form is numbers (log_copies ghosts.seen log) on contents hold c good v (volume_kept c good v) bytes sectors q used in
      let first : plex_contents c bytes q 0 ≡ maps_header v.len v.region 32 =
      held.same 0 (some_sectors form.shape.geometry) ∙ headed_begins (log_header form.shape.geometry) log headed (copies_tell contents (log_copies ghosts.seen log) hold) held.copy held.inside
      ∙ ap (λ n. maps_header n form.shape.geometry.region 32) is.shape_is.length_is ∙ ap (λ n. maps_header v.len n 32) is.shape_is.region_is in
      subst (λ (x : List ℕ). bytes_eq x (maps_header v.len v.region 32) ≡ true) (sym first) (bytes_eq_self (maps_header v.len v.region 32))

  -- so the image has a copy, if the log does
  pub some_copy : 0 < length (log_copies ghosts.seen log) → (x : LogCopy) × Contains (image_of c good bytes v).copies x
  some_copy some =
      let laid = on.long in
      let long = zip_length (IsLayoutOf c) (used_logs v.dco c good false v.name) form.logs.items is.logs in
      let q = first_in (used_logs v.dco c good false v.name) (omega (arith, some, laid, long)) in
      (plex_marks c bytes v q.0, copy_in c good bytes v v.dco q.0 q.1 (used_headed q.0 q.1))
