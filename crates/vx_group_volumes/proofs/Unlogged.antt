-- A log plex that counts begins with the header, so where its copy was passed over it has failed.
use Rattle.std.proofs.Common.{◌≡◌, inl, inr, ℕ, ◌+◌, ◌*◌, ◌/◌, ◌<◌, true, false, Option, Some, None, List, [], length, refl, sym, ap, ◌∙◌, subst, arith}
use Rattle.std.specs.Prelude.{◌&&◌, is_some, slice_index_or}
use Rattle.std.specs.List.{All}
use Rattle.std.proofs.lemmas.Bool.{and_from, and_parts, false≢true}
use Rattle.vx_base.specs.Counts.{Rose}
use Rattle.vx_base.specs.Named.{Word}
use Rattle.vx_base.proofs.NamedLemmas.{bytes_eq_same}
use Rattle.vx_block.specs.Regions.{region_count}
use Rattle.vx_mapfmt.specs.Bits.{is_headed}
use Rattle.vx_mapfmt.specs.Header.{maps_header}
use Rattle.vx_mapfmt.specs.Sizes.{map_bytes_of, parts_of}
use Rattle.vx_piece.specs.Seen.{Seen}
use Rattle.vx_runs.specs.Run.{RunTells, run_contents}
use Rattle.vx_carve.specs.Carved.{AreCut}
use Rattle.vx_carve.specs.Together.{Holds, faults_on}
use Rattle.vx_maps.specs.Loading.{copy_at}
use Rattle.vx_layout.specs.declared.layout.Layout.{Layout}
use Rattle.vx_config_parts.specs.declared.plex.Plex.{Plex}
use Rattle.vx_config_parts.specs.declared.state.PlexState.{PlexState}
use Rattle.vx_config_parts.specs.declared.state.PlexState.TheVariants as plex
use Rattle.vx_config_parts.specs.Objects.{is_log_plex_of}
use Rattle.vx_objects.specs.declared.config.Config.{Config}
use Rattle.vx_image.specs.Lies.{columns_of}
use Rattle.vx_image.proofs.PlexMembers.{IsIn}
use Rattle.vx_image.specs.Bytes.{is_active, is_held, plex_contents}
use Rattle.vx_image.specs.UsedPlexes.{is_used_log, is_used_state, used_logs}
use Rattle.vx_image.proofs.Members.{is_in}
use Rattle.vx_lending.specs.FormLaws.{good_disks}
use Rattle.vx_lending.proofs.Bits.{kept}
use Rattle.vx_lending.proofs.Places.{columns_lie, log_taken}
use Rattle.vx_lending.specs.Logs.{log_header}
use Rattle.vx_lending.specs.Taken.{log_sectors}
use Rattle.vx_volume_laws.proofs.Loaded.{run_tells}
use Rattle.vx_volume_laws.proofs.OpenedImages.{same_item, some_of}
use Rattle.vx_volume_laws.proofs.OpenedRuns.{cut_holds}
use Rattle.vx_group_start.specs.Logs.{AreOn, IsPassedOver}
use Rattle.vx_group_volumes.specs.Devices.{HasFailedOn}
use Rattle.vx_group_volumes.specs.LogLaws.{EachPassedLogHasFailed}
use Rattle.vx_group_volumes.proofs.Taken.{layout_of, lies_on}

-- ---- it is used

pub used_active : (s : PlexState) → is_active s ≡ true → is_used_state false s ≡ true
used_active plex.Empty h = absurd (false≢true h)
used_active plex.Clean h = h
used_active plex.Active h = refl
used_active plex.IoFail h = h
used_active plex.Stale h = h
used_active plex.SnapAtt h = h
used_active plex.SnapDone h = h
used_active plex.DcoSnp h = h

pub among_used : (dco : Option Word) (c : Config) (good : ℕ) (vol : Word) (p : Plex) → is_some dco ≡ true → IsIn c.plexes p → is_used_log c good false vol p ≡ true → IsIn (used_logs dco c good false vol) p
among_used None c good vol p some there used = absurd (false≢true some)
among_used (Some dco) c good vol p some there used = kept (is_used_log c good false vol) c.plexes p there used

-- ---- its first sector

pub some_log : (regions : ℕ) → 0 < 35 * (map_bytes_of regions / 512)
some_log regions = by (parts_of 8 regions)
  where
    by : (units : ℕ) → 0 < 35 * (parts_of 8192 (512 + units) * 8192 / 512)
    by units = omega arith

pub header_by : (length region length' region' : ℕ) → length ≡ length' → region ≡ region' → maps_header length region 32 ≡ maps_header length' region' 32
header_by length region length' region' e f = ap (λ n. maps_header n region 32) e ∙ ap (λ n. maps_header length' n 32) f

pub passed_failed : EachPassedLogHasFailed
passed_failed c good v form is numbers before after unlogged contents holds bytes sectors p there counts =
    let first = and_parts (is_log_plex_of v.name p) (is_active p.state && (is_held c good p && is_headed v.len v.region (plex_contents c bytes p))) counts in
    let second = and_parts (is_active p.state) (is_held c good p && is_headed v.len v.region (plex_contents c bytes p)) first.1 in
    let third = and_parts (is_held c good p) (is_headed v.len v.region (plex_contents c bytes p)) second.1 in
    let logs : List Plex = used_logs v.dco c good false v.name in
    let among : IsIn logs p = among_used v.dco c good v.name p unlogged.dco (is_in c.plexes p there) (and_from _ _ first.0 (and_from _ _ (used_active p.state second.0) third.0)) in
    let r = layout_of c logs form.logs.items p is.logs among in
    let n : ℕ = r.0 in
    let laid : n < length form.logs.items = r.1 in
    let long = unlogged.are.taken.long in
    let inside : n < length unlogged.copies = omega (arith, laid, long) in
    let d : Layout = some_of form.logs.items n laid in
    let l : Layout = slice_index_or form.logs.items n d in
    let lay = r.2 d in
    let pieces : List Seen = slice_index_or unlogged.copies n [] in
    let at : copy_at unlogged.copies n ≡ pieces = same_item [] unlogged.copies n in
    let count : ℕ = log_sectors form.shape.geometry in
    let cut : AreCut numbers p.unit (columns_of c p) 0 count pieces = subst (λ u. AreCut numbers u (columns_of c p) 0 count pieces) lay.unit (subst (λ columns. AreCut numbers l.unit columns 0 count pieces) lay.columns (unlogged.are.taken.cut n d laid)) in
    let own : All (Holds contents) pieces = unlogged.are.hold contents holds n [] inside in
    let some : 0 + 0 < count = some_log (region_count form.shape.geometry.length form.shape.geometry.region) in
    let held : run_contents pieces 0 ≡ plex_contents c bytes p 0 = cut_holds good c.disks numbers contents bytes sectors p.unit (columns_of c p) (columns_lie c good p third.0 p.ncol 0) pieces 0 count 0 cut own some in
    let headed : run_contents pieces 0 ≡ log_header form.shape.geometry =
    held ∙ bytes_eq_same (plex_contents c bytes p 0) (maps_header v.len v.region 32) third.1 ∙ sym (header_by form.shape.geometry.length form.shape.geometry.region v.len v.region is.shape_is.length_is is.shape_is.region_is) in
    by (log_header form.shape.geometry) pieces (λ device on rose. record { device = device; lies = lies_on c good v false form is numbers unlogged.copies unlogged.are.taken n laid d p (log_taken c good v false v.dco p among).0 lay device on; rose = rose })
    (run_tells contents pieces own) headed (subst (λ (x : List Seen). IsPassedOver (log_header form.shape.geometry) before after x) at (unlogged.passed n inside))
  where
    by : (header : List ℕ) (copy : List Seen) → ((device : ℕ) → AreOn device copy → Rose (faults_on device before) (faults_on device after) → HasFailedOn c (good_disks good c.disks) numbers before after p) → RunTells copy → run_contents copy 0 ≡ header → IsPassedOver header before after copy → HasFailedOn c (good_disks good c.disks) numbers before after p
    by header copy failed tells headed (inl x) = failed x.0 x.1 x.2
    by header copy failed tells headed (inr not) = absurd (not tells headed)
