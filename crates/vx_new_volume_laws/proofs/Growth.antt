-- The first start of a new volume makes the text of its group longer by a byte for each plex and for the volume.
use Rattle.std.proofs.Common.{◌≡◌, ℕ, ◌+◌, ◌&&◌, not, cond, Bool, true, false, Some, None, List, [], ◌∷◌, ◌++◌, length, length-append, map, refl, sym, ap, ◌∙◌, subst, inl, inr, arith, if◌then◌else◌}
use Rattle.std.specs.List.{AllZip, count_by, flat_map, sum_by}
use Rattle.std.specs.Str.{bytes_eq}
use Rattle.std.proofs.lemmas.Bool.{false≢true, false_from_ne_true}
use Rattle.std.proofs.Math.Bool.{and-false}
use Rattle.std.proofs.lemmas.List.Concat.{length-flat_map}
use Rattle.std.proofs.lemmas.List.Sums.{sum_by-append, sum_by-cons}
use Rattle.vx_base.specs.Named.{Word}
use Rattle.vx_base.proofs.NamedLemmas.{bytes_eq_self}
use Rattle.vx_names.specs.declared.attr.Attr.{Attr}
use Rattle.vx_record.specs.Grammar.{attr_line, head_line}
use Rattle.vx_record.specs.declared.kind.Kind.{Kind}
use Rattle.vx_record.specs.declared.kind.Kind.TheVariants as kinds
use Rattle.vx_record.specs.declared.label.Label.TheVariants as labels
use Rattle.vx_config_parts.specs.declared.object.Object.{Object}
use Rattle.vx_config_parts.specs.declared.object.Object.TheVariants.{GroupRecord, DiskRecord, SubdiskRecord, PlexRecord, VolRecord, DcoRecord, SnapRecord}
use Rattle.vx_config_parts.specs.declared.plex.Plex.{Plex}
use Rattle.vx_config_parts.specs.declared.plex.PlexKind.{PlexKind}
use Rattle.vx_config_parts.specs.declared.plex.PlexKind.TheVariants.{Data, Log}
use Rattle.vx_config_parts.specs.declared.plex.PlexLayout.TheVariants.{Concat}
use Rattle.vx_config_parts.specs.declared.state.PlexState.{PlexState}
use Rattle.vx_config_parts.specs.declared.state.PlexState.TheVariants as plex
use Rattle.vx_config_parts.specs.declared.state.VolState.TheVariants as vol
use Rattle.vx_config_parts.specs.declared.vol.Vol.{Vol}
use Rattle.vx_config_parts.specs.Objects.{is_plex, is_vol, name_of, refers}
use Rattle.vx_config_parts.specs.Words.{layout_word, plex_kind_word, plex_state_word, policy_word, vol_state_word}
use Rattle.vx_rules.proofs.ListTests.{count_none}
use Rattle.vx_objects.specs.declared.config.Config.{Config}
use Rattle.vx_objects.specs.declared.edit.Edit.TheVariants.{Make}
use Rattle.vx_objects.specs.Applied.{IsEdited}
use Rattle.vx_objects.specs.Config.{objects_of}
use Rattle.vx_objects.specs.Printed.{attr, numeral, numeral_or_none}
use Rattle.vx_image.proofs.PlexMembers.{IsIn, count_some, in_any}
use Rattle.vx_new_volumes.specs.Records.{data_plex, log_plex, vol_of}
use Rattle.vx_new_volumes.specs.declared.volume.NewVolume.{NewVolume}
use Rattle.vx_moments.specs.World.{Group}
use Rattle.vx_state_edits.specs.Edits.{is_new, started, started_as, start_edits}
use Rattle.vx_state_edits.specs.Laws.{EachStartRestates, IsAmong, IsPlexAfter, IsRecorded, Restates, in_state}
use Rattle.vx_state_texts.proofs.Sizes.{line_size, size_of, text_size}
use Rattle.vx_state_texts.proofs.Sums.{sum_mapped}
use Rattle.vx_stages.specs.Sources.{is_raised}
use Rattle.vx_new_volume_laws.specs.Laws.{EachStartIsLongerByItsGrowth}
use Rattle.vx_new_volume_laws.proofs.Counting.{no_plex_in}
use Rattle.vx_new_volume_laws.proofs.Beside.{sub_place}
use Rattle.vx_new_volume_laws.proofs.Lists.{none_any}
use Rattle.vx_new_volume_laws.proofs.Lying.{IsCase, case_of}
use Rattle.vx_new_volume_laws.proofs.Parts.{of_each}
use Rattle.vx_new_volume_laws.proofs.Sorted.{sum_grown, sum_made, sum_objects, sum_same}

-- ---- one record

-- a record of which one line is longer by a byte is so
one_longer : (kind : Kind) (name : List ℕ) (us ws : List Attr) (a b : Attr) → line_size b ≡ line_size a + 1
    → length (head_line kind name ++ flat_map attr_line (us ++ b ∷ ws)) ≡ length (head_line kind name ++ flat_map attr_line (us ++ a ∷ ws)) + 1
one_longer kind name us ws a b more =
    let c = length-append (head_line kind name) (flat_map attr_line (us ++ b ∷ ws)) in
    let d = length-append (head_line kind name) (flat_map attr_line (us ++ a ∷ ws)) in
    let e = length-flat_map attr_line (us ++ b ∷ ws) in
    let f = length-flat_map attr_line (us ++ a ∷ ws) in
    let g = sum_by-append line_size us (b ∷ ws) in
    let h = sum_by-append line_size us (a ∷ ws) in
    omega (arith, more, c, d, e, f, g, h, sum_by-cons line_size b ws, sum_by-cons line_size a ws)

plex_longer : (p : Plex) → size_of (PlexRecord (record p { state = plex.Active })) ≡ size_of (PlexRecord (record p { state = plex.Empty })) + 1
plex_longer p =
    one_longer kinds.Plex p.name
    (attr labels.Vol p.vol ∷ attr labels.Kind (Some (plex_kind_word p.kind)) ∷ attr labels.Layout (Some (layout_word p.layout)) ∷ attr labels.Ncol (numeral p.ncol) ∷ attr labels.Unit (numeral p.unit) ∷ [])
    (attr labels.Map (numeral_or_none p.map) ∷ [])
    (attr labels.State (Some (plex_state_word plex.Empty))) (attr labels.State (Some (plex_state_word plex.Active))) refl

vol_longer : (v : Vol) → size_of (VolRecord (record v { state = vol.Active })) ≡ size_of (VolRecord (record v { state = vol.Empty })) + 1
vol_longer v =
    one_longer kinds.Vol v.name
    (attr labels.Len (numeral v.len) ∷ attr labels.Region (numeral v.region) ∷ attr labels.Rdpol (Some (policy_word v.rdpol)) ∷ attr labels.Prefer v.prefer ∷ [])
    (attr labels.Dco v.dco ∷ [])
    (attr labels.State (Some (vol_state_word vol.Empty))) (attr labels.State (Some (vol_state_word vol.Active))) refl

started_new : (kind : PlexKind) → started_as true kind plex.Empty ≡ plex.Active
started_new Data = refl
started_new Log = refl

-- a record as it is after the first start of the volume
abbrev first_started : Word → Object → Object
first_started name (PlexRecord p) = PlexRecord (record p { state = if refers p.vol name then started true p else p.state })
first_started name (VolRecord v) = VolRecord (in_state name vol.Active v)
first_started name o = o

abbrev size_started : Word → Object → ℕ
size_started name o = size_of (first_started name o)

-- ---- a configuration after the start

plex_size : (name : Word) (p q : Plex) → IsPlexAfter name (started true) p q → size_of (PlexRecord q) ≡ size_started name (PlexRecord p)
plex_size name p q is = ap (λ (x : Plex). size_of (PlexRecord x)) is.same ∙ ap (λ (s : PlexState). size_of (PlexRecord (record p { state = s }))) (by (refers p.vol name) refl)
  where
    by : (own : Bool) → refers p.vol name ≡ own → q.state ≡ (if own then started true p else p.state)
    by true e = is.own e
    by false e = is.other e

plexes_size : (name : Word) (ps qs : List Plex) → AllZip (IsPlexAfter name (started true)) ps qs → sum_by size_of (map PlexRecord qs) ≡ sum_by (size_started name) (map PlexRecord ps)
plexes_size name [] [] all = refl
plexes_size name [] (q ∷ qs) all = absurd all
plexes_size name (p ∷ ps) [] all = absurd all
plexes_size name (p ∷ ps) (q ∷ qs) all =
    let here = plex_size name p q all.0 in
    let rest = plexes_size name ps qs all.1 in
    let a = sum_by-cons size_of (PlexRecord q) (map PlexRecord qs) in
    let b = sum_by-cons (size_started name) (PlexRecord p) (map PlexRecord ps) in
    omega (arith, here, rest, a, b)

module _ (name : Word) (made after : Config) (r : Restates name vol.Active (started true) made after) where
  -- records of a kind that stays
  kind_size : {A : Type 0} (make : A → Object) → ((a : A) → size_of (make a) ≡ size_started name (make a)) → (old new : List A) → new ≡ old → sum_by size_of (map make new) ≡ sum_by (size_started name) (map make old)
  kind_size make same old new e =
      ap (λ xs. sum_by size_of (map make xs)) e ∙ sum_mapped size_of make old ∙ (λ i. sum_by (λ a. same a i) old) ∙ sym (sum_mapped (size_started name) make old)

  volumes_size : sum_by size_of (map VolRecord after.volumes) ≡ sum_by (size_started name) (map VolRecord made.volumes)
  volumes_size =
      ap (λ (vs : List Vol). sum_by size_of (map VolRecord vs)) r.volumes
      ∙ sum_mapped size_of VolRecord (map (in_state name vol.Active) made.volumes)
      ∙ sum_mapped (λ (v : Vol). size_of (VolRecord v)) (in_state name vol.Active) made.volumes
      ∙ sym (sum_mapped (size_started name) VolRecord made.volumes)

  after_size : sum_by size_of (objects_of after) ≡ sum_by (size_started name) (objects_of made)
  after_size =
      let group : size_of (GroupRecord (record { name = after.group; version = after.version })) ≡ size_of (GroupRecord (record { name = made.group; version = made.version })) =
      λ i. size_of (GroupRecord (record { name = r.group i; version = r.version i })) in
      let disks = kind_size DiskRecord (λ x. refl) made.disks after.disks r.disks in
      let subdisks = kind_size SubdiskRecord (λ x. refl) made.subdisks after.subdisks r.subdisks in
      let dcos = kind_size DcoRecord (λ x. refl) made.dcos after.dcos r.dcos in
      let snaps = kind_size SnapRecord (λ x. refl) made.snaps after.snaps r.snaps in
      omega (arith, group, disks, subdisks, plexes_size name made.plexes after.plexes r.plexes, volumes_size, dcos, snaps, sum_objects size_of after, sum_objects (size_started name) made)

-- ---- the records of a new volume, and of its group

among_in : (os : List Object) (o : Object) → IsAmong os o → IsIn os o
among_in [] o there = absurd there
among_in (x ∷ os) o (inl same) = inl same
among_in (x ∷ os) o (inr more) = inr (among_in os o more)

-- a volume of the name that was started before
abbrev is_old : Word → Vol → Bool
is_old name v = not (is_new v.state) && bytes_eq v.name name

module _ (is_up : Bool) (g : Group) (n : NewVolume) (added : List Object) (c : IsCase is_up g n added) where
  abbrev group : List Object
  group = objects_of g.config

  no_plex_own : (p : Plex) → IsIn group (PlexRecord p) → refers p.vol n.vol ≡ false
  no_plex_own p there =
      false_from_ne_true (refers p.vol n.vol)
      (λ h. false≢true (sym (no_plex_in g n.vol c.passed.free (λ q. refers q.vol n.vol) (λ q e. e)) ∙ in_any (λ o. is_plex (λ q. refers q.vol n.vol) o) group (PlexRecord p) there h))

  no_vol_own : (v : Vol) → IsIn group (VolRecord v) → bytes_eq v.name n.vol ≡ false
  no_vol_own v there = false_from_ne_true (bytes_eq v.name n.vol) (λ h. false≢true (sym c.passed.free ∙ in_any (λ o. bytes_eq (name_of o) n.vol) group (VolRecord v) there h))

  -- nothing of the group changes
  stays : (o : Object) → IsIn group o → size_started n.vol o ≡ size_of o
  stays (PlexRecord p) there = ap (λ (b : Bool). size_of (PlexRecord (record p { state = if b then started true p else p.state }))) (no_plex_own p there)
  stays (VolRecord v) there = ap (λ (b : Bool). size_of (VolRecord (if b then record v { state = vol.Active } else v))) (no_vol_own v there)
  stays o there = refl

  vol_grows : (dco : Word) → size_started n.vol (VolRecord (vol_of n dco)) ≡ size_of (VolRecord (vol_of n dco)) + 1
  vol_grows dco = ap (λ (b : Bool). size_of (VolRecord (if b then record (vol_of n dco) { state = vol.Active } else vol_of n dco))) (bytes_eq_self n.vol) ∙ vol_longer (vol_of n dco)

  plex_grows : (p : Plex) → p.vol ≡ Some n.vol → p.state ≡ plex.Empty → size_started n.vol (PlexRecord p) ≡ size_of (PlexRecord p) + 1
  plex_grows p own new =
      let state : (if refers p.vol n.vol then started true p else p.state) ≡ plex.Active =
      (λ i. if refers (own i) n.vol then started_as true p.kind (new i) else new i) ∙ ap (λ (b : Bool). if b then started_as true p.kind plex.Empty else plex.Empty) (bytes_eq_self n.vol) ∙ started_new p.kind in
      ap (λ (s : PlexState). size_of (PlexRecord (record p { state = s }))) state ∙ plex_longer p ∙ ap (λ (s : PlexState). size_of (PlexRecord (record p { state = s })) + 1) (sym new)

  log_grows : (name : Word) → size_started n.vol (log_plex n name) ≡ size_of (log_plex n name) + 1
  log_grows name = plex_grows (record { name = name; vol = Some n.vol; kind = Log; layout = Concat; ncol = 1; unit = 128; state = plex.Empty; map = None }) refl refl

  -- each of the new plexes, and the volume, has a longer record
  grows : (o : Object) → IsIn added o → size_started n.vol o ≡ size_of o + cond (is_raised o) 1 0
  grows =
      of_each (λ o. size_started n.vol o ≡ size_of o + cond (is_raised o) 1 0) n group c.plan added c.made (vol_grows c.made.dco) (λ logs. omega arith)
      (λ k name lt there. plex_grows (data_plex n k name) refl refl) (λ name there. log_grows name)
      (λ o there. let r = sub_place is_up g n added c o there in subst (λ x. size_started n.vol x ≡ size_of x + cond (is_raised x) 1 0) (sym r.3) (omega arith))

  none_old : (o : Object) → IsIn group o → is_vol (is_old n.vol) o ≡ false
  none_old (VolRecord v) there = ap (λ (b : Bool). not (is_new v.state) && b) (no_vol_own v there) ∙ and-false (not (is_new v.state))
  none_old o there = refl

  none_old_added : (o : Object) → IsIn added o → is_vol (is_old n.vol) o ≡ false
  none_old_added =
      of_each (λ o. is_vol (is_old n.vol) o ≡ false) n group c.plan added c.made refl (λ logs. refl) (λ k name lt there. refl) (λ name there. refl)
      (λ o there. ap (λ (x : Object). is_vol (is_old n.vol) x) (sub_place is_up g n added c o there).3)

  module _ (made : Config) (edited : IsEdited (Make added ∷ []) g.config made) where
    abbrev old : Object → Bool
    old o = is_vol (is_old n.vol) o

    none_left : count_by old (objects_of made) ≡ 0
    none_left =
        let sum = sum_made (λ o. cond (old o) 1 0) g.config made added edited in
        let a = count_none old group (none_any old group none_old) in
        let b = count_none old added (none_any old added none_old_added) in
        omega (arith, sum, a, b)

    -- the volume of the name was never started
    vol_new : (v : Vol) → IsRecorded made v → v.name ≡ n.vol → is_new v.state ≡ true
    vol_new v recorded named = by (is_new v.state) refl
      where
        by : (b : Bool) → is_new v.state ≡ b → b ≡ true
        by true e = refl
        by false e =
            let is : is_old n.vol v ≡ true = (λ i. not (e i) && bytes_eq (named i) n.vol) ∙ bytes_eq_self n.vol in
            let some = count_some old (objects_of made) (VolRecord v) (among_in (objects_of made) (VolRecord v) recorded) is in
            let none = none_left in
            absurd (omega (arith, some, none))

    longer : EachStartRestates → (v : Vol) → IsRecorded made v → v.name ≡ n.vol → (after : Config) → IsEdited (start_edits made v) made after → sum_by size_of (objects_of after) ≡ sum_by size_of (objects_of made) + count_by is_raised added
    longer restates v recorded named after start =
        let r : Restates n.vol vol.Active (started true) made after =
        subst (λ (b : Bool). Restates n.vol vol.Active (started b) made after) (vol_new v recorded named)
        (subst (λ (w : Word). Restates w vol.Active (started (is_new v.state)) made after) named (restates made v recorded after start)) in
        let a = after_size n.vol made after r in
        let b = sum_made (size_started n.vol) g.config made added edited in
        let d = sum_same (size_started n.vol) size_of group stays in
        let e = sum_grown (size_started n.vol) size_of is_raised added grows in
        let f = sum_made size_of g.config made added edited in
        omega (arith, a, b, d, e, f)

pub each_longer : EachStartRestates → EachStartIsLongerByItsGrowth
each_longer restates is_started g n added laid made edited v recorded named after start text later printed later_printed =
    let grown = longer (is_started n.vol) g n added (case_of is_started g n added laid) made edited restates v recorded named after start in
    let a = text_size made text printed in
    let b = text_size after later later_printed in
    omega (arith, grown, a, b)
