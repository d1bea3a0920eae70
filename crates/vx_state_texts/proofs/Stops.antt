-- A stop after which more plexes miss something has a text that is no shorter.
use Rattle.std.proofs.Common.{◌≡◌, ◌∙◌, ℕ, ◌≤◌, Bool, true, false, Option, Some, None, List, [], ◌∷◌, ◌++◌, map, refl, sym, subst, arith}
use Rattle.std.specs.List.{AllZip, sum_by}
use Rattle.std.proofs.lemmas.Nat.Bits.{bit_at_ones}
use Rattle.vx_base.specs.Named.{Word}
use Rattle.vx_mask.specs.Mask.{has}
use Rattle.vx_mask.proofs.MaskLemmas.{has-lt}
use Rattle.vx_config_parts.specs.declared.object.Object.TheVariants.{GroupRecord, DiskRecord, SubdiskRecord, PlexRecord, VolRecord, DcoRecord, SnapRecord}
use Rattle.vx_config_parts.specs.declared.plex.Plex.{Plex}
use Rattle.vx_config_parts.specs.declared.plex.PlexKind.{PlexKind}
use Rattle.vx_config_parts.specs.declared.plex.PlexKind.TheVariants.{Data, Log}
use Rattle.vx_config_parts.specs.declared.state.PlexState.{PlexState}
use Rattle.vx_config_parts.specs.declared.state.PlexState.TheVariants as plex
use Rattle.vx_config_parts.specs.Objects.{refers}
use Rattle.vx_config_parts.specs.Words.{plex_state_word}
use Rattle.vx_record.specs.declared.kind.Kind.TheVariants as kinds
use Rattle.vx_record.specs.declared.label.Label.TheVariants as labels
use Rattle.vx_objects.specs.declared.config.Config.{Config}
use Rattle.vx_objects.specs.Config.{objects_of}
use Rattle.vx_objects.specs.Printed.{attr, attrs_of}
use Rattle.vx_states.specs.Table.{plex_stopped}
use Rattle.vx_state_edits.specs.Edits.{is_marked, stopped, stopped_as}
use Rattle.vx_state_edits.specs.Laws.{EachStopRestates, IsPlexAfter}
use Rattle.vx_state_texts.specs.Texts.{AreWithin, EachMaskIsWithinAll, EachStopIsNoLonger}
use Rattle.vx_state_texts.proofs.Sizes.{line_size, lines_below, size_of, text_size}
use Rattle.vx_state_texts.proofs.Sums.{sum_before, sum_behind, sum_below}

-- the line of a plex that tells its state
abbrev pub state_line : PlexState → ℕ
state_line s = line_size (attr labels.State (Some (plex_state_word s)))

same_size : (n : ℕ) → n ≤ n
same_size n = omega arith

-- ---- one plex

-- a failed plex has the longer name
data_below : (marked more : Bool) (s : PlexState) → (marked ≡ true → more ≡ true) → state_line (plex_stopped marked s) ≤ state_line (plex_stopped more s)
data_below true true plex.Active within = omega arith
data_below true false plex.Active within = absurd (cc (within refl))
data_below false true plex.Active within = omega arith
data_below false false plex.Active within = omega arith
data_below marked more s within = omega arith

as_below : (kind : PlexKind) (marked more : Bool) (s : PlexState) → (marked ≡ true → more ≡ true) → state_line (stopped_as kind marked s) ≤ state_line (stopped_as kind more s)
as_below Data marked more s within = data_below marked more s within
as_below Log marked more s within = omega arith

marked_within : (marks more : ℕ) → AreWithin marks more → (m : Option ℕ) → is_marked marks m ≡ true → is_marked more m ≡ true
marked_within marks more within None is = within 0 is
marked_within marks more within (Some m) is = within m is

stopped_below : (marks more : ℕ) → AreWithin marks more → (p : Plex) → state_line (stopped marks p) ≤ state_line (stopped more p)
stopped_below marks more within p = as_below p.kind (is_marked marks p.map) (is_marked more p.map) p.state (marked_within marks more within p.map)

-- a plex in two states
pub restated_below : (p : Plex) (s t : PlexState) → state_line s ≤ state_line t → size_of (PlexRecord (record p { state = s })) ≤ size_of (PlexRecord (record p { state = t }))
restated_below p s t le =
    lines_below kinds.Plex p.name (attrs_of (PlexRecord (record p { state = s }))) (attrs_of (PlexRecord (record p { state = t })))
    (same_size _, (same_size _, (same_size _, (same_size _, (same_size _, (le, (same_size _, tt)))))))

state_below : (vol : Word) (after more : Plex → PlexState) → ((p : Plex) → state_line (after p) ≤ state_line (more p)) →
    (p q r : Plex) → IsPlexAfter vol after p q → IsPlexAfter vol more p r → state_line q.state ≤ state_line r.state
state_below vol after more below p q r one other = by (refers p.vol vol) refl
  where
    by : (own : Bool) → refers p.vol vol ≡ own → state_line q.state ≤ state_line r.state
    by true is = subst (λ s. state_line s ≤ state_line r.state) (sym (one.own is)) (subst (λ s. state_line (after p) ≤ state_line s) (sym (other.own is)) (below p))
    by false is = subst (λ s. state_line s ≤ state_line r.state) (sym (one.other is)) (subst (λ s. state_line p.state ≤ state_line s) (sym (other.other is)) (same_size _))

plex_below : (vol : Word) (after more : Plex → PlexState) → ((p : Plex) → state_line (after p) ≤ state_line (more p)) →
    (p q r : Plex) → IsPlexAfter vol after p q → IsPlexAfter vol more p r → size_of (PlexRecord q) ≤ size_of (PlexRecord r)
plex_below vol after more below p q r one other =
    subst (λ x. size_of (PlexRecord x) ≤ size_of (PlexRecord r)) (sym one.same)
    (subst (λ x. size_of (PlexRecord (record p { state = q.state })) ≤ size_of (PlexRecord x)) (sym other.same)
    (restated_below p q.state r.state (state_below vol after more below p q r one other)))

-- ---- all of them

plexes_below : (vol : Word) (after more : Plex → PlexState) → ((p : Plex) → state_line (after p) ≤ state_line (more p)) →
    (ps qs rs : List Plex) → AllZip (IsPlexAfter vol after) ps qs → AllZip (IsPlexAfter vol more) ps rs →
    AllZip (λ x y. size_of x ≤ size_of y) (map PlexRecord qs) (map PlexRecord rs)
plexes_below vol after more below [] [] [] one other = tt
plexes_below vol after more below [] [] (r ∷ rs) one other = elim other [ ]
plexes_below vol after more below [] (q ∷ qs) rs one other = elim one [ ]
plexes_below vol after more below (p ∷ ps) [] rs one other = elim one [ ]
plexes_below vol after more below (p ∷ ps) (q ∷ qs) [] one other = elim other [ ]
plexes_below vol after more below (p ∷ ps) (q ∷ qs) (r ∷ rs) one other =
    (plex_below vol after more below p q r one.0 other.0, plexes_below vol after more below ps qs rs one.1 other.1)

-- the records of two configurations, of which the plexes of the one are nowhere longer and all else is the same
pub config_below : (c d : Config) → d.group ≡ c.group → d.version ≡ c.version → d.disks ≡ c.disks → d.subdisks ≡ c.subdisks → d.volumes ≡ c.volumes → d.dcos ≡ c.dcos → d.snaps ≡ c.snaps →
    sum_by size_of (map PlexRecord c.plexes) ≤ sum_by size_of (map PlexRecord d.plexes) → sum_by size_of (objects_of c) ≤ sum_by size_of (objects_of d)
config_below c d group version disks subdisks volumes dcos snaps le =
    subst (λ os. sum_by size_of (objects_of c) ≤ sum_by size_of os) same
    (sum_behind size_of (GroupRecord (record { name = c.group; version = c.version }) ∷ map DiskRecord c.disks) _ _
    (sum_behind size_of (map SubdiskRecord c.subdisks) _ _
    (sum_before size_of (map VolRecord c.volumes ++ (map DcoRecord c.dcos ++ map SnapRecord c.snaps)) (map PlexRecord c.plexes) (map PlexRecord d.plexes) le)))
  where
    same : GroupRecord (record { name = c.group; version = c.version }) ∷ map DiskRecord c.disks ++ (map SubdiskRecord c.subdisks ++ (map PlexRecord d.plexes ++ (map VolRecord c.volumes ++ (map DcoRecord c.dcos ++ map SnapRecord c.snaps)))) ≡ objects_of d
    same = cc (group, version, disks, subdisks, volumes, dcos, snaps)

pub stop_is_no_longer : EachStopRestates → EachStopIsNoLonger
stop_is_no_longer restates c v marks more recorded within next longest one other text longest_text printed longest_printed =
    let r = restates c v marks recorded next one in
    let l = restates c v more recorded longest other in
    let le = config_below next longest (l.group ∙ sym r.group) (l.version ∙ sym r.version) (l.disks ∙ sym r.disks) (l.subdisks ∙ sym r.subdisks) (l.volumes ∙ sym r.volumes) (l.dcos ∙ sym r.dcos) (l.snaps ∙ sym r.snaps)
    (sum_below size_of (map PlexRecord next.plexes) (map PlexRecord longest.plexes) (plexes_below v.name (stopped marks) (stopped more) (stopped_below marks more within) c.plexes next.plexes longest.plexes r.plexes l.plexes)) in
    omega (arith, le, text_size next text printed, text_size longest longest_text longest_printed)

-- ---- all maps

pub within_all : EachMaskIsWithinAll
unfolding has
within_all marks few k is = cc (bit_at_ones 64 k (has-lt marks k few is))
