-- Strips that lie in public regions of disks.
use Rattle.std.proofs.Common.{◌≡◌, ◌≢◌, ℕ, ◌<◌, Bool, true, false, List, [], ◌∷◌, length, map, refl, sym, ap, subst, ◌∙◌, arith}
use Rattle.std.specs.Prelude.{◌==◌, ◌&&◌, ◌||◌, ◌+◌, nat_le, slice_index_or}
use Rattle.std.specs.List.{All, list_all}
use Rattle.std.proofs.lemmas.Bool.{le-leb}
use Rattle.std.proofs.lemmas.List.Elements.{All-map}
use Rattle.vx_piece.specs.Seen.{Seen}
use Rattle.vx_layout.specs.declared.strip.Strip.{Strip}
use Rattle.vx_layout.specs.declared.layout.Layout.{Layout}
use Rattle.vx_carve.specs.Strips.{EachStrip, HasNumber, IsFreeStrip, IsOpenRun, ArePlexes, AreApartStrips, lies_in, all_lie_in}
use Rattle.vx_carve.proofs.Room.{strips_free}
use Rattle.vx_config_parts.specs.declared.disk.Disk.{Disk}
use Rattle.vx_config_parts.specs.declared.plex.Plex.{Plex}
use Rattle.vx_objects.specs.declared.config.Config.{Config}
use Rattle.vx_image.specs.Lies.{is_on_disk, are_on_disks, columns_of}
use Rattle.vx_image.specs.Room.{public_of, AreLayoutsOf}
use Rattle.vx_image.proofs.Apart.{plexes_apart}

and_true : (b : Bool) → (b && true) ≡ b
and_true true = refl
and_true false = refl

same_one : (d : Disk) (strip : Strip) → ((d.slot == strip.disk && nat_le 0 strip.start) && nat_le (strip.start + strip.count) (0 + d.publen)) ≡ (d.slot == strip.disk && nat_le (strip.start + strip.count) d.publen)
same_one d strip =
    let whole : 0 + d.publen ≡ d.publen = omega arith in
    ap (λ b. (d.slot == strip.disk && b) && nat_le (strip.start + strip.count) (0 + d.publen)) (le-leb 0 strip.start (omega arith))
    ∙ ap (λ b. b && nat_le (strip.start + strip.count) (0 + d.publen)) (and_true (d.slot == strip.disk))
    ∙ ap (λ n. d.slot == strip.disk && nat_le (strip.start + strip.count) n) whole

same_test : (disks : List Disk) (strip : Strip) → lies_in (map public_of disks) strip ≡ is_on_disk disks strip
same_test [] strip = refl
same_test (d ∷ disks) strip =
    ap (λ b. b || lies_in (map public_of disks) strip) (same_one d strip) ∙ ap (λ b. (d.slot == strip.disk && nat_le (strip.start + strip.count) d.publen) || b) (same_test disks strip)

same_strips : (disks : List Disk) (strips : List Strip) → list_all (lies_in (map public_of disks)) strips ≡ list_all (is_on_disk disks) strips
same_strips disks [] = refl
same_strips disks (strip ∷ strips) = ap (λ b. b && list_all (lies_in (map public_of disks)) strips) (same_test disks strip) ∙ ap (λ b. is_on_disk disks strip && b) (same_strips disks strips)

same_columns : (disks : List Disk) (columns : List (List Strip)) → all_lie_in (map public_of disks) columns ≡ are_on_disks disks columns
same_columns disks [] = refl
same_columns disks (strips ∷ columns) = ap (λ b. b && all_lie_in (map public_of disks) columns) (same_strips disks strips) ∙ ap (λ b. list_all (is_on_disk disks) strips && b) (same_columns disks columns)

pub plexes_have_room : (disks : List Disk) (numbers : List ℕ) (ps : List Seen) (columns : List (List Strip)) → All (λ d. IsOpenRun numbers ps (public_of d)) disks → are_on_disks disks columns ≡ true →
    EachStrip (HasNumber numbers) columns × EachStrip (IsFreeStrip numbers ps) columns
plexes_have_room disks numbers ps columns all on = strips_free numbers (map public_of disks) ps columns (All-map (IsOpenRun numbers ps) public_of disks all) (same_columns disks columns ∙ on)

pub layouts_apart : (c : Config) (numbers : List ℕ) (plexes : List Plex) (layouts : List Layout) → AreLayoutsOf c plexes layouts →
    ((j k : ℕ) (p : Plex) → j < length plexes → k < length plexes → j ≢ k → (slice_index_or plexes j p).name ≢ (slice_index_or plexes k p).name) →
    All (λ (l : Layout). EachStrip (HasNumber numbers) l.columns) layouts → ArePlexes numbers layouts
layouts_apart c numbers plexes layouts are differ numbered = record { numbered = numbered; apart = λ j k d lt lt' other. apart_at plexes are differ j k d lt lt' other }
  where
    apart_at : (plexes : List Plex) → AreLayoutsOf c plexes layouts →
        ((j k : ℕ) (p : Plex) → j < length plexes → k < length plexes → j ≢ k → (slice_index_or plexes j p).name ≢ (slice_index_or plexes k p).name) →
        (j k : ℕ) (d : Layout) → j < length layouts → k < length layouts → j ≢ k → AreApartStrips (slice_index_or layouts j d).columns (slice_index_or layouts k d).columns
    apart_at [] are differ j k d lt lt' other = let long = are.long in absurd (omega (arith, lt, long))
    apart_at (p ∷ plexes) are differ j k d lt lt' other =
        let long = are.long in
        let at = are.each j p d lt in
        let at' = are.each k p d lt' in
        let apart : AreApartStrips (columns_of c (slice_index_or (p ∷ plexes) j p)) (columns_of c (slice_index_or (p ∷ plexes) k p)) =
        plexes_apart c (slice_index_or (p ∷ plexes) j p) (slice_index_or (p ∷ plexes) k p) (differ j k p (omega (arith, lt, long)) (omega (arith, lt', long)) other) in
        subst (λ x. AreApartStrips x (slice_index_or layouts k d).columns) (sym at) (subst (λ y. AreApartStrips (columns_of c (slice_index_or (p ∷ plexes) j p)) y) (sym at') apart)
