-- On which log plex a copy of a log is: plexes of a configuration have no sector in common, so a strip tells.
use Rattle.std.proofs.Common.{◌≡◌, inl, inr, ℕ, zero, suc, ◌+◌, ◌^◌, ◌<◌, Bool, true, false, not, List, [], ◌∷◌, ◌++◌, length, map, refl, sym, ◌∙◌, ap, subst, arith}
use Rattle.std.specs.Prelude.{◌&&◌, ◌||◌, ◌==◌, nat_le, nat_lt, slice_index_or}
use Rattle.std.specs.List.{flat_map, list_all}
use Rattle.std.specs.Str.{bytes_eq}
use Rattle.std.proofs.lemmas.Bool.{and_parts, eq-eqb, false≢true, false_from_ne_true, leb-true, ltb-true, or_cases}
use Rattle.std.proofs.lemmas.List.{length-map}
use Rattle.vx_base.specs.Named.{Word}
use Rattle.vx_base.proofs.NamedLemmas.{bytes_eq_same, bytes_eq_self}
use Rattle.vx_piece.specs.Seen.{Seen}
use Rattle.vx_layout.specs.declared.layout.Layout.{Layout}
use Rattle.vx_layout.specs.declared.strip.Strip.{Strip}
use Rattle.vx_layout.specs.Columns.{column_at, column_length}
use Rattle.vx_layout.specs.Valid.{is_apart, is_column, is_strip}
use Rattle.vx_layout.proofs.ValidLemmas.{parts_of_layout}
use Rattle.vx_pages.specs.declared.local_piece.LocalPiece.{Ghosts}
use Rattle.vx_config_parts.specs.declared.plex.Plex.{Plex}
use Rattle.vx_config_parts.specs.declared.vol.Vol.{Vol}
use Rattle.vx_config_parts.specs.Objects.{is_data_plex_of, is_log_plex_of}
use Rattle.vx_objects.specs.declared.config.Config.{Config}
use Rattle.vx_image.specs.Bytes.{is_held}
use Rattle.vx_image.specs.Lies.{strips_of}
use Rattle.vx_image.specs.UsedPlexes.{held_plexes, used_logs}
use Rattle.vx_image.proofs.Apart.{plexes_apart}
use Rattle.vx_image.proofs.Members.{is_in}
use Rattle.vx_image.proofs.PlexMembers.{IsIn, all_in, any_in, from_map, in_any, in_either, in_map, in_right}
use Rattle.vx_moments.specs.Holding.{is_among}
use Rattle.vx_lending.specs.Form.{AreLayouts, IsFormOf, IsLayoutOf}
use Rattle.vx_lending.proofs.Distinct.{filtered, in_at}
use Rattle.vx_lending.proofs.Places.{log_taken}
use Rattle.vx_lending.proofs.Rules.{one_plex}
use Rattle.vx_lending.proofs.Zips.{zip_at, zip_length}
use Rattle.vx_lending.specs.declared.public.Running.{Running}
use Rattle.vx_volume_laws.proofs.Held.{IsPlaceOf, at_map, place_in}
use Rattle.vx_group_volumes.specs.Opened.{opened_plexes}
use Rattle.vx_group_volumes.specs.Places.{RunsInPlace}
use Rattle.vx_group_volumes.specs.Runs.{Opening}
use Rattle.vx_joined_volumes.specs.Joined.{good_joined}
use Rattle.vx_joined_volumes.proofs.Now.{form_now, names_now}
use Rattle.vx_joined_volumes.proofs.Plexes.{IsSameLog, logs_same}
use Rattle.vx_joined_volumes.proofs.Zips.{zip_map}
use Rattle.vx_yielded_volumes.specs.Yielded.{IsCopyOn, IsOnNoCopy, opened_logs}
use Rattle.vx_yielded_volumes.specs.YieldLaws.{EachLogIsFound, EachLogIsMissed, EachLoneCopyIsAlone, IsLogAt}
use Rattle.vx_yielded_volumes.proofs.Edits.{data_other}

abbrev name_of_plex : Plex → Word
name_of_plex q = q.name

-- ---- strips

in_flat : (test : Strip → Bool) (columns : List (List Strip)) (x : Strip) → list_all (λ strips. list_all test strips) columns ≡ true → IsIn (flat_map (λ strips. strips) columns) x → test x ≡ true
in_flat test [] x all there = absurd there
in_flat test (strips ∷ columns) x all there =
    let parts = and_parts (list_all test strips) (list_all (λ strips. list_all test strips) columns) all in
    elim (in_either strips (flat_map (λ strips. strips) columns) x there) [
      | inl here ↦ all_in test strips x parts.0 here
      | inr later ↦ in_flat test columns x parts.1 later
    ]

all_strips : (size : ℕ) (columns : List (List Strip)) → list_all (is_column size) columns ≡ true → list_all (λ strips. list_all is_strip strips) columns ≡ true
all_strips size [] all = refl
all_strips size (strips ∷ columns) all =
    let parts = and_parts (is_column size strips) (list_all (is_column size) columns) all in
    rw ((and_parts (column_length strips == size) (list_all is_strip strips) parts.0).1) (all_strips size columns parts.1)

-- a strip of a layout has sectors
pub strip_some : (l : Layout) (x : Strip) → IsIn (flat_map (λ strips. strips) l.columns) x → 0 < x.count
strip_some l x there =
    let parts = parts_of_layout l.unit l.columns l.valid in
    let one = in_flat is_strip l.columns x (all_strips (column_length (column_at l.columns 0)) l.columns parts.each) there in
    ltb-true 0 x.count (and_parts (nat_lt 0 x.count) (nat_le (x.start + x.count) (2 ^ 40)) one).0

-- a strip that has sectors is not apart from itself
meets_itself : (x : Strip) → 0 < x.count → is_apart x x ≡ true → ⊥
meets_itself x some apart =
    elim (or_cases (not (x.disk == x.disk) || nat_le (x.start + x.count) x.start) (nat_le (x.start + x.count) x.start) apart) [
      | inl one ↦
          elim (or_cases (not (x.disk == x.disk)) (nat_le (x.start + x.count) x.start) one) [
            | inl differ ↦ false≢true (ap not (sym (eq-eqb x.disk x.disk refl)) ∙ differ)
            | inr before ↦ let le = leb-true (x.start + x.count) x.start before in omega (arith, le, some)
          ]
      | inr behind ↦ let le = leb-true (x.start + x.count) x.start behind in omega (arith, le, some)
    ]

-- so plexes that have it are of one name
pub one_strip : (c : Config) (p q : Plex) (x : Strip) → IsIn (strips_of c p) x → IsIn (strips_of c q) x → 0 < x.count → q.name ≡ p.name
one_strip c p q x here there some = by (bytes_eq q.name p.name) refl
  where
    by : (b : Bool) → bytes_eq q.name p.name ≡ b → q.name ≡ p.name
    by true e = bytes_eq_same q.name p.name e
    by false e =
        let differ : (q.name ≡ p.name → ⊥) = λ same. false≢true (sym e ∙ ap (bytes_eq q.name) (sym same) ∙ bytes_eq_self q.name) in
        absurd (meets_itself x some (all_in (is_apart x) (strips_of c p) x (all_in (λ y. list_all (is_apart y) (strips_of c p)) (strips_of c q) x (plexes_apart c q p differ) there) here))

-- ---- names

name_among : (n : Word) (names : List Word) → IsIn names n → is_among n names ≡ true
name_among n names there = in_any (λ k. bytes_eq k n) names n there (bytes_eq_self n)

among_name : (n : Word) (names : List Word) → is_among n names ≡ true → IsIn names n
among_name n names among =
    let r = any_in (λ k. bytes_eq k n) names among in
    subst (λ k. IsIn names k) (bytes_eq_same r.0 n r.2) r.1

-- ---- places

-- what stands at a place of a list is there whatever stands for none
any_default : {A : Type 0} (xs : List A) (k : ℕ) (d e : A) → k < length xs → slice_index_or xs k d ≡ slice_index_or xs k e
any_default [] k d e lt = absurd (omega (arith, lt))
any_default (x ∷ xs) zero d e lt = refl
any_default (x ∷ xs) (suc k) d e lt = any_default xs k d e (omega (arith, lt))

-- two are one where there is no more
one_alone : {A : Type 0} (xs : List A) (x y : A) (j k : ℕ) → IsPlaceOf xs x j → IsPlaceOf xs y k → length xs ≡ 1 → y ≡ x
one_alone xs x y j k here there one =
    let first = here.inside in
    let second = there.inside in
    let same : k ≡ j = omega (arith, first, second, one) in
    sym (there.at x) ∙ ap (λ (n : ℕ). slice_index_or xs n x) same ∙ here.at x

-- ---- the logs of a running volume

module _ {P : Type 0} {ghosts : Ghosts P} (see : P → Seen) (running : Running P ghosts) (c : Config) (good : ℕ) (numbers : List ℕ) (v : Vol) (placed : RunsInPlace see c good numbers v running) where
  abbrev o : Opening
  o = placed.runs.opening

  abbrev joined : ℕ
  joined = good_joined placed.runs.opening good

  -- the log plexes that it was opened with, as they are now
  abbrev logs : List Plex
  logs = used_logs v.dco c joined false v.name

  pub logs_lie : AreLayouts c logs running.form.logs.items
  logs_lie = let now : IsFormOf c joined v false running.form = form_now see running c good numbers v placed in now.logs

  pub logs_long : length running.form.logs.items ≡ length logs
  logs_long = zip_length (IsLayoutOf c) logs running.form.logs.items logs_lie

  pub logs_named : map name_of_plex logs ≡ opened_logs placed.runs.opening
  logs_named =
      zip_map (IsSameLog o.config o.good o.fresh c joined) name_of_plex name_of_plex (λ x y s. s.same.name) (used_logs o.vol.dco o.config o.good o.fresh o.vol.name) (used_logs v.dco c joined false v.name) (logs_same see running c good numbers v placed)

  -- ---- a log plex

  -- it is among the plexes that the volume counts as opened with just where it is among the logs
  module _ (p : Plex) (here : IsIn c.plexes p) (log : is_log_plex_of v.name p ≡ true) where
    pub log_among : is_among p.name (opened_plexes placed.runs.opening) ≡ true → IsIn logs p
    log_among among =
        let there = among_name p.name (map name_of_plex (held_plexes c joined v.name) ++ map name_of_plex logs) (ap (is_among p.name) (names_now see running c good numbers v placed) ∙ among) in
        elim (in_either (map name_of_plex (held_plexes c joined v.name)) (map name_of_plex logs) p.name there) [
          | inl first ↦
              let q = from_map name_of_plex (held_plexes c joined v.name) p.name first in
              let w = filtered (λ q. is_data_plex_of v.name q && is_held c joined q) c.plexes q.0 q.1 in
              absurd (data_other c v p q.0 here w.0 log (and_parts (is_data_plex_of v.name q.0) (is_held c joined q.0) w.1).0 (sym q.2))
          | inr of ↦
              let q = from_map name_of_plex logs p.name of in
              let taken = log_taken c joined v false v.dco q.0 q.1 in
              subst (λ x. IsIn logs x) (one_plex c q.0 p taken.0.there here (sym q.2)) q.1
        ]

    pub among_log : IsIn logs p → is_among p.name (opened_plexes placed.runs.opening) ≡ true
    among_log there =
        sym (ap (is_among p.name) (names_now see running c good numbers v placed))
        ∙ name_among p.name (map name_of_plex (held_plexes c joined v.name) ++ map name_of_plex logs) (in_right (map name_of_plex (held_plexes c joined v.name)) (map name_of_plex logs) p.name (in_map name_of_plex logs p there))

    -- ---- the copy on it

    module _ (l : Layout) (lay : IsLayoutOf c p l) (copy : ℕ) (on : IsCopyOn running.form.logs.items copy l) where
      inside : copy < length logs
      inside = let lt = on.inside in let long = logs_long in omega (arith, lt, long)

      -- the log plex at its place
      abbrev q : Plex
      q = slice_index_or logs copy p

      abbrev m : Layout
      m = slice_index_or running.form.logs.items copy l

      q_there : IsIn logs q
      q_there = in_at logs copy p inside

      q_lies : IsLayoutOf c q m
      q_lies = zip_at (IsLayoutOf c) logs running.form.logs.items logs_lie copy p l on.inside

      -- is of its name, and so is it
      q_is : q ≡ p
      q_is =
          let shared = on.shared l in
          let first = is_in (flat_map (λ strips. strips) m.columns) shared.strip shared.in_first in
          let second = is_in (flat_map (λ strips. strips) l.columns) shared.strip shared.in_second in
          let on_q = subst (λ columns. IsIn (flat_map (λ strips. strips) columns) shared.strip) q_lies.columns first in
          let on_p = subst (λ columns. IsIn (flat_map (λ strips. strips) columns) shared.strip) lay.columns second in
          let same = one_strip c p q shared.strip on_p on_q (strip_some l shared.strip second) in
          one_plex c q p (log_taken c joined v false v.dco q q_there).0.there here same

      pub copy_place : IsPlaceOf logs p copy
      copy_place = record { inside = inside; at = λ d. any_default logs copy d p inside ∙ q_is }

      pub log_at : IsLogAt placed.runs.opening running.form.logs.items p copy
      log_at = record {
        long = ap length (sym logs_named) ∙ length-map logs name_of_plex ∙ sym logs_long;
        at = λ d. ap (λ ns. slice_index_or ns copy d) (sym logs_named) ∙ at_map name_of_plex logs p copy d copy_place;
        among = among_log (subst (λ x. IsIn logs x) q_is q_there);
      }

    -- ---- no copy on it

    pub log_missed : (l : Layout) → IsLayoutOf c p l → IsOnNoCopy running.form.logs.items l → is_among p.name (opened_plexes placed.runs.opening) ≡ false
    log_missed l lay none =
        false_from_ne_true _ (λ among.
        let r = place_in logs p (log_among among) in
        let k = r.0 in
        let lt = r.1.inside in
        let long = logs_long in
        let less : k < length running.form.logs.items = omega (arith, lt, long) in
        let lies = subst (λ x. IsLayoutOf c x (slice_index_or running.form.logs.items k l)) (r.1.at p) (zip_at (IsLayoutOf c) logs running.form.logs.items logs_lie k p l less) in
        none k l less (lies.unit ∙ sym lay.unit) (lies.columns ∙ sym lay.columns))

-- ---- the laws

pub each_found : {P : Type 0} {ghosts : Ghosts P} (see : P → Seen) (running : Running P ghosts) → EachLogIsFound see running
each_found see running c good numbers v placed p here log l lay copy on = log_at see running c good numbers v placed p (is_in c.plexes p here) log l lay copy on

pub each_missed : {P : Type 0} {ghosts : Ghosts P} (see : P → Seen) (running : Running P ghosts) → EachLogIsMissed see running
each_missed see running c good numbers v placed p here log l lay none = log_missed see running c good numbers v placed p (is_in c.plexes p here) log l lay none

pub each_alone : {P : Type 0} {ghosts : Ghosts P} (see : P → Seen) (running : Running P ghosts) → EachLoneCopyIsAlone see running
each_alone see running c good numbers v placed p here log l lay copy on one q there own among =
    let long = logs_long see running c good numbers v placed in
    let r = place_in (used_logs v.dco c (good_joined placed.runs.opening good) false v.name) q (log_among see running c good numbers v placed q (is_in c.plexes q there) own among) in
    ap name_of_plex
    (one_alone (used_logs v.dco c (good_joined placed.runs.opening good) false v.name) p q copy r.0 (copy_place see running c good numbers v placed p (is_in c.plexes p here) log l lay copy on) r.1 (omega (arith, long, one)))
