-- A running volume has the pieces of just those plexes that its form lies on.
use Rattle.std.proofs.Common.{◌≡◌, inl, inr, ℕ, zero, suc, ◌+◌, ◌<◌, Bool, true, false, cond, Option, Some, None, List, [], ◌∷◌, ◌++◌, length, map, refl, sym, ap, ◌∙◌, subst, arith}
use Rattle.std.specs.Prelude.{◌&&◌, ◌||◌, ◌==◌, not, nat_le}
use Rattle.std.specs.List.{AllZip, find, flat_map, list_all, list_any}
use Rattle.std.specs.Str.{bytes_eq}
use Rattle.std.proofs.lemmas.Bool.{and_from, and_parts, eq-eqb, eqb-true, false≢true, or_cases, leb-true}
use Rattle.vx_base.specs.Named.{Word}
use Rattle.vx_base.proofs.NamedLemmas.{bytes_eq_same, bytes_eq_self, name_cases}
use Rattle.vx_piece.specs.Seen.{Seen}
use Rattle.vx_layout.specs.declared.layout.Layout.{Layout}
use Rattle.vx_layout.specs.declared.strip.Strip.{Strip}
use Rattle.vx_layout.specs.Columns.{column_at, column_length}
use Rattle.vx_layout.specs.Valid.{is_apart}
use Rattle.vx_layout.proofs.ValidLemmas.{parts_of_layout}
use Rattle.vx_config_parts.specs.declared.plex.Plex.{Plex}
use Rattle.vx_config_parts.specs.declared.subdisk.Subdisk.{Subdisk}
use Rattle.vx_config_parts.specs.declared.vol.Vol.{Vol}
use Rattle.vx_rules.specs.Columns.{is_in_column}
use Rattle.vx_objects.specs.declared.config.Config.{Config}
use Rattle.vx_image.specs.Lies.{columns_from, columns_of, slot_of, strip_of, strip_then, strips_from, strips_of}
use Rattle.vx_image.specs.UsedPlexes.{held_plexes, used_logs}
use Rattle.vx_image.proofs.Apart.{plexes_apart}
use Rattle.vx_image.proofs.Members.{contains, is_in}
use Rattle.vx_image.proofs.PlexMembers.{IsIn, all_in, any_in, from_map, in_any, in_left, in_map, plex_in}
use Rattle.vx_image.proofs.Plexes.{config_valid, filled}
use Rattle.vx_image.proofs.Shapes.{lies}
use Rattle.vx_pages.specs.declared.local_piece.LocalPiece.{Ghosts}
use Rattle.vx_lending.specs.Form.{IsLayoutOf}
use Rattle.vx_lending.specs.FormLaws.{all_layouts}
use Rattle.vx_lending.specs.declared.form.VolumeForm.{VolumeForm}
use Rattle.vx_lending.specs.declared.public.Running.{Running}
use Rattle.vx_lending.proofs.Places.{all_are, each_taken}
use Rattle.vx_lending.proofs.Rules.{one_plex}
use Rattle.vx_moments.specs.Holding.{is_among}
use Rattle.vx_volume_laws.proofs.Plexes.{zip_left, zip_right}
use Rattle.vx_group_volumes.specs.Opened.{opened_plexes}
use Rattle.vx_group_volumes.specs.Places.{RunsInPlace}
use Rattle.vx_group_volumes.specs.Runs.{Opening}
use Rattle.vx_run.specs.Lent.{begin_at, begins_at, first_piece, form_begins, lies_by, starts_at}

-- ---- where a plex begins

-- a strip of the plex begins it: that of the piece which begins its first column
record Begins (c : Config) (p : Plex) : Type 0 where
  piece : Subdisk
  first : first_piece c p.name ≡ Some piece
  there : IsIn c.subdisks piece
  rest : List Strip
  column : column_at (columns_of c p) 0 ≡ strip_of c.disks piece ∷ rest
  among : IsIn (strips_of c p) (strip_of c.disks piece)

-- the piece that is found is one of these
found_in : {A : Type 0} (test : A → Bool) (xs : List A) (x : A) → find test xs ≡ Some x → IsIn xs x
found_in test [] x e = cc
found_in test (y ∷ ys) x e = by (λ k. found_in test ys x k) (test y) e
  where
    same_some : Some y ≡ Some x → x ≡ y
    same_some e = cc

    by : (find test ys ≡ Some x → IsIn ys x) → (b : Bool) → cond b (Some y) (find test ys) ≡ Some x → IsIn (y ∷ ys) x
    by on true e = inl (same_some e)
    by on false e = inr (on e)

module _ (c : Config) (name : Word) where
  -- a column that has sectors begins with the strip of the first piece
  head_is : (k : ℕ) → 0 < column_length (strips_from k c name 0 0) → (s : Subdisk) × (rest : List Strip) × (first_piece c name ≡ Some s) × (strips_from k c name 0 0 ≡ strip_of c.disks s ∷ rest)
  head_is zero long = absurd (omega (arith, long))
  head_is (suc k) long = by (first_piece c name) long
    where
      by : (f : Option Subdisk) → 0 < column_length (strip_then c.disks f (λ next. strips_from k c name 0 next)) →
          (s : Subdisk) × (rest : List Strip) × (f ≡ Some s) × (strip_then c.disks f (λ next. strips_from k c name 0 next) ≡ strip_of c.disks s ∷ rest)
      by None long = absurd (omega (arith, long))
      by (Some s) long = (s, strips_from k c name 0 (s.at + s.len), refl, refl)

  columns_begin : (n : ℕ) → 0 < length (columns_from n c name 0) → 0 < column_length (column_at (columns_from n c name 0) 0) →
      (s : Subdisk) × (rest : List Strip) × (first_piece c name ≡ Some s) × (column_at (columns_from n c name 0) 0 ≡ strip_of c.disks s ∷ rest) × IsIn (flat_map (λ strips. strips) (columns_from n c name 0)) (strip_of c.disks s)
  columns_begin zero some long = absurd (omega (arith, some))
  columns_begin (suc n) some long =
      let r = head_is (length c.subdisks) long in
      let column = strips_from (length c.subdisks) c name 0 0 in (
        r.0,
        r.1,
        r.2,
        r.3,
        in_left column (flat_map (λ strips. strips) (columns_from n c name (0 + 1))) (strip_of c.disks r.0) (subst (λ (ss : List Strip). IsIn ss (strip_of c.disks r.0)) (sym r.3) (inl refl)),
      )

begins : (c : Config) (p : Plex) → IsIn c.plexes p → Begins c p
begins c p there =
    let parts = parts_of_layout p.unit (columns_of c p) (lies c (config_valid c) p (plex_in c p there)) in
    let r = columns_begin c p.name p.ncol parts.some parts.sectors in
    record { piece = r.0; first = r.2; there = found_in (λ s. is_in_column p.name 0 s && s.at == 0) c.subdisks r.0 r.2; rest = r.1; column = r.3; among = r.4 }

-- two strips that begin at one sector of a disk are not apart
meet : (a b : Strip) → a.disk ≡ b.disk → a.start ≡ b.start → 0 < a.count → 0 < b.count → is_apart a b ≡ true → ⊥
meet a b disk start some others apart =
    elim (or_cases (not (a.disk == b.disk) || nat_le (a.start + a.count) b.start) (nat_le (b.start + b.count) a.start) apart) [
      | inl one ↦
          elim (or_cases (not (a.disk == b.disk)) (nat_le (a.start + a.count) b.start) one) [
            | inl differ ↦ false≢true (ap not (sym (eq-eqb a.disk b.disk disk)) ∙ differ)
            | inr before ↦ let le = leb-true (a.start + a.count) b.start before in omega (arith, le, start, some)
          ]
      | inr behind ↦ let le = leb-true (b.start + b.count) a.start behind in omega (arith, le, start, others)
    ]

module _ (c : Config) where
  -- columns that begin as those of the plex do so where its first piece lies
  begins_where : (p : Plex) (b : Begins c p) (columns : List (List Strip)) → columns ≡ columns_of c p → (disk start : ℕ) →
      begins_at columns disk start ≡ (slot_of c.disks b.piece.disk == disk && b.piece.off == start)
  begins_where p b columns same disk start = ap (λ (cs : List (List Strip)). starts_at (column_at cs 0) disk start) same ∙ ap (λ (ss : List Strip). starts_at ss disk start) b.column

  -- plexes that begin at one sector are one
  one_begins : (p q : Plex) → IsIn c.plexes p → IsIn c.plexes q → (b : Begins c p) (d : Begins c q) →
      slot_of c.disks d.piece.disk ≡ slot_of c.disks b.piece.disk → d.piece.off ≡ b.piece.off → q.name ≡ p.name
  one_begins p q here there b d disk start = elim (name_cases q.name p.name) [
    | inl same ↦ same
    | inr other ↦
        let differ : (q.name ≡ p.name → ⊥) = λ same. false≢true (sym other ∙ ap (bytes_eq q.name) (sym same) ∙ bytes_eq_self q.name) in
        let apart = all_in (is_apart (strip_of c.disks d.piece)) (strips_of c p) (strip_of c.disks b.piece) (all_in (λ x. list_all (is_apart x) (strips_of c p)) (strips_of c q) (strip_of c.disks d.piece) (plexes_apart c q p differ) d.among) b.among in
        absurd (meet (strip_of c.disks d.piece) (strip_of c.disks b.piece) disk start (filled c (config_valid c) d.piece d.there) (filled c (config_valid c) b.piece b.there) apart)
  ]

-- ---- the plexes of a running volume

-- the layouts of plexes and those of logs
either_begins : (form : VolumeForm) (disk start : ℕ) → form_begins form disk start ≡ begin_at (all_layouts form) disk start
either_begins form disk start = any_append (λ l. begins_at l.columns disk start) form.layouts.items form.logs.items
  where
    or_step : (a b d : Bool) → ((a || b) || d) ≡ (a || (b || d))
    or_step true b d = refl
    or_step false b d = refl

    any_append : (test : Layout → Bool) (xs ys : List Layout) → (list_any test xs || list_any test ys) ≡ list_any test (xs ++ ys)
    any_append test [] ys = refl
    any_append test (x ∷ xs) ys = or_step (test x) (list_any test xs) (list_any test ys) ∙ ap (λ (b : Bool). test x || b) (any_append test xs ys)

pub same_bool : (a b : Bool) → (a ≡ true → b ≡ true) → (b ≡ true → a ≡ true) → a ≡ b
same_bool true b f h = sym (f refl)
same_bool false true f h = h refl
same_bool false false f h = refl

module _ {P : Type 0} {ghosts : Ghosts P} (see : P → Seen) (c : Config) (good : ℕ) (numbers : List ℕ) (v : Vol) (r : Running P ghosts) (placed : RunsInPlace see c good numbers v r) where
  abbrev o : Opening
  o = placed.runs.opening

  abbrev plexes : List Plex
  plexes = held_plexes o.config o.good o.vol.name ++ used_logs o.vol.dco o.config o.good o.fresh o.vol.name

  lie : AllZip (IsLayoutOf o.config) plexes (all_layouts r.form)
  lie = all_are o.config o.good o.vol o.fresh r.form placed.runs.form

  -- a plex that the volume was opened with, as it is now
  record IsNow (x : Plex) : Type 0 where
    plex : Plex
    there : IsIn c.plexes plex
    name : plex.name ≡ x.name
    columns : columns_of c plex ≡ columns_of o.config x

  now : (x : Plex) → IsIn plexes x → IsNow x
  now x among =
      let taken = each_taken o.config o.good o.vol o.fresh x among in
      let kept = placed.places x (contains o.config.plexes x taken.there) taken.of in
      record { plex = kept.plex; there = is_in c.plexes kept.plex kept.there; name = kept.name; columns = kept.lies.columns }

  names_are : opened_plexes o ≡ map (λ (x : Plex). x.name) plexes
  names_are = sym (map_append (held_plexes o.config o.good o.vol.name) (used_logs o.vol.dco o.config o.good o.fresh o.vol.name))
    where
      map_append : (xs ys : List Plex) → map (λ (x : Plex). x.name) (xs ++ ys) ≡ map (λ (x : Plex). x.name) xs ++ map (λ (x : Plex). x.name) ys
      map_append [] ys = refl
      map_append (x ∷ xs) ys = ap (λ (ns : List Word). x.name ∷ ns) (map_append xs ys)

  module _ (p : Plex) (here : IsIn c.plexes p) where
    abbrev b : Begins c p
    b = begins c p here

    abbrev disk : ℕ
    disk = slot_of c.disks b.piece.disk

    begun_opened : begin_at (all_layouts r.form) disk b.piece.off ≡ true → is_among p.name (opened_plexes o) ≡ true
    begun_opened begun =
        let l = any_in (λ (x : Layout). begins_at x.columns disk b.piece.off) (all_layouts r.form) begun in
        let x = zip_right (IsLayoutOf o.config) plexes (all_layouts r.form) lie l.0 l.1 in
        let n = now x.0 x.1 in
        let d = begins c n.plex n.there in
        let at = and_parts (slot_of c.disks d.piece.disk == disk) (d.piece.off == b.piece.off) (sym (begins_where c n.plex d l.0.columns (x.2.columns ∙ sym n.columns) disk b.piece.off) ∙ l.2) in
        let one = one_begins c p n.plex here n.there b d (eqb-true (slot_of c.disks d.piece.disk) disk at.0) (eqb-true d.piece.off b.piece.off at.1) in
        in_any (λ (w : Word). bytes_eq w p.name) (opened_plexes o) x.0.name
        (subst (λ (ns : List Word). IsIn ns x.0.name) (sym names_are) (in_map (λ (y : Plex). y.name) plexes x.0 x.1))
        (subst (λ (w : Word). bytes_eq w p.name ≡ true) (sym one ∙ n.name) (bytes_eq_self p.name))

    opened_begun : is_among p.name (opened_plexes o) ≡ true → begin_at (all_layouts r.form) disk b.piece.off ≡ true
    opened_begun opened =
        let w = any_in (λ (n : Word). bytes_eq n p.name) (opened_plexes o) opened in
        let x = from_map (λ (y : Plex). y.name) plexes w.0 (subst (λ (ns : List Word). IsIn ns w.0) names_are w.1) in
        let n = now x.0 x.1 in
        let one = one_plex c n.plex p n.there here (n.name ∙ sym x.2 ∙ bytes_eq_same w.0 p.name w.2) in
        let l = zip_left (IsLayoutOf o.config) plexes (all_layouts r.form) lie x.0 x.1 in
        in_any (λ (y : Layout). begins_at y.columns disk b.piece.off) (all_layouts r.form) l.0 l.1
        (begins_where c p b l.0.columns (l.2.columns ∙ sym n.columns ∙ ap (columns_of c) one) disk b.piece.off
        ∙ and_from _ _ (eq-eqb disk disk refl) (eq-eqb b.piece.off b.piece.off refl))

    -- the volume was opened with the plex just where a layout of its form begins where the plex does
    pub lent_opened : lies_by c.disks r.form (first_piece c p.name) ≡ is_among p.name (opened_plexes placed.runs.opening)
    lent_opened =
        ap (lies_by c.disks r.form) b.first ∙ either_begins r.form disk b.piece.off
        ∙ same_bool (begin_at (all_layouts r.form) disk b.piece.off) (is_among p.name (opened_plexes o)) begun_opened opened_begun
