-- The records of new logs: log plexes of the volume, and behind them subdisks that name them.
use Rattle.std.proofs.Common.{◌≡◌, ℕ, zero, suc, ◌+◌, ◌≤◌, Bool, true, false, Some, None, List, [], ◌∷◌, ◌++◌, length, map, refl, sym, ◌∙◌, ap, subst, arith, inl}
use Rattle.std.specs.Prelude.{◌&&◌, Contains}
use Rattle.std.specs.List.{filter_map, list_all, list_any}
use Rattle.std.specs.Str.{bytes_eq}
use Rattle.std.proofs.lemmas.Bool.{and_from, false≢true}
use Rattle.std.proofs.lemmas.List.{append-nil, length-append}
use Rattle.std.proofs.lemmas.List.Elements.{filter_map-append}
use Rattle.std.proofs.lemmas.List.Folds.{list_all-append}
use Rattle.vx_base.specs.Named.{Word}
use Rattle.vx_base.proofs.NamedLemmas.{bytes_eq_self}
use Rattle.vx_config_parts.specs.declared.object.Object.{Object}
use Rattle.vx_config_parts.specs.declared.object.Object.TheVariants.{SubdiskRecord, PlexRecord}
use Rattle.vx_config_parts.specs.declared.plex.Plex.{Plex}
use Rattle.vx_config_parts.specs.declared.plex.PlexKind.TheVariants.{Log}
use Rattle.vx_config_parts.specs.declared.plex.PlexLayout.TheVariants.{Concat}
use Rattle.vx_config_parts.specs.declared.state.PlexState.{PlexState}
use Rattle.vx_config_parts.specs.declared.vol.Vol.{Vol}
use Rattle.vx_config_parts.specs.Objects.{is_log_plex_of, is_plex, name_of, refers}
use Rattle.vx_objects.specs.Parts.{as_plex}
use Rattle.vx_image.proofs.PlexMembers.{IsIn, all_in, any_in, from_map, in_any, in_left, in_map}
use Rattle.vx_image.proofs.Members.{contains, is_in}
use Rattle.vx_space.specs.declared.extent.Extent.{Extent}
use Rattle.vx_new_volumes.specs.declared.parts.Plan.{Plan}
use Rattle.vx_new_volumes.specs.Laying.{Laid, put_logs, subdisk}
use Rattle.vx_new_volumes.specs.Logs.{log_in, logs_named, logs_of}
use Rattle.vx_new_volumes.specs.Naming.{names_behind, next_name}
use Rattle.vx_new_volumes.specs.Records.{log_stem}
use Rattle.vx_group_edits.specs.Dcos.{AreLogsOf}
use Rattle.vx_group_edits.specs.Joins.{plexes_in}
use Rattle.vx_group_edits.specs.OfVolume.{AreOf, is_part_of}
use Rattle.vx_group_edits.proofs.Lists.{all_each}
use Rattle.vx_group_edits.proofs.OwnEdits.{none_picked}
use Rattle.vx_group_edits.proofs.Records.{nothing_laid}
use Rattle.vx_group_edits.proofs.Subdisks.{logs_pass, then_some}

-- a log plex of the volume
abbrev log_at : Word → PlexState → Word → Plex
log_at vol state name = record { name = name; vol = Some vol; kind = Log; layout = Concat; ncol = 1; unit = 128; state = state; map = None }

-- the record is a subdisk of a plex of one of these names
abbrev is_on : List Word → Object → Bool
is_on names (SubdiskRecord s) = list_any (λ n. refers s.plex n) names
is_on names other = false

names_count : (n : ℕ) (done known : List Word) (stem : Word) (from : ℕ) (names : List Word) → names_behind n done known stem from ≡ Some names → length names ≡ length done + n
names_count zero done known stem from names e = let same : done ≡ names = cc in let long = ap (λ (ns : List Word). length ns) same in omega (arith, long)
names_count (suc n) done known stem from names e =
    let t = then_some (next_name known stem from) (λ t. names_behind n (done ++ t.name ∷ []) known stem (t.number + 1)) names e in
    let rest = names_count n (done ++ t.0.name ∷ []) known stem (t.0.number + 1) names t.2 in
    let one = length-append done (t.0.name ∷ []) in
    omega (arith, rest, one)

-- ---- how they are made

-- the logs have these names, and this is laid behind them of the plan
pub record AreLogsMade (group : List Object) (v : Vol) (dco : Word) (plan : Plan) (state : PlexState) (added : List Object) : Type 0 where
  pub names : List Word
  pub count : length names ≡ length plan.logs
  pub laid : Laid
  pub put : put_logs ((dco ∷ map name_of group) ++ names) names plan.logs nothing_laid ≡ Some laid
  pub are : map (log_in v.name state) names ++ laid.objects ≡ added

module _ (group : List Object) (v : Vol) (dco : Word) (plan : Plan) (state : PlexState) (added : List Object) where
  pub logs_made : logs_of group v dco plan state ≡ Some added → AreLogsMade group v dco plan state added
  unfolding logs_of
  logs_made is =
      let known = dco ∷ map name_of group in
      let t = then_some (names_behind (length plan.logs) [] known (log_stem v.name) 1) (λ names. logs_named known v names plan state) added is in
      let u = then_some (put_logs (known ++ t.0) t.0 plan.logs nothing_laid) (λ l. Some (map (log_in v.name state) t.0 ++ l.objects)) added t.2 in
      let count = names_count (length plan.logs) [] known (log_stem v.name) 1 t.0 t.1 in
      record { names = t.0; count = omega (arith, count); laid = u.0; put = u.1; are = cc (u.2) }

  module _ (made : AreLogsMade group v dco plan state added) where
    -- where the subdisks of each extent that is fit pass a test, and the plan has such extents alone, all that is laid passes it
    pub laid_pass : (test : Object → Bool) (fit : Extent → Bool) → ((plex : Word) → IsIn made.names plex → (name : Word) (col at : ℕ) (e : Extent) → fit e ≡ true → test (subdisk name plex col at e) ≡ true) →
        list_all (list_all fit) plan.logs ≡ true → list_all test made.laid.objects ≡ true
    laid_pass test fit each fits = logs_pass test fit ((dco ∷ map name_of group) ++ made.names) made.names each plan.logs nothing_laid made.laid fits made.put refl

    -- .. and so does all that is added, where logs pass it
    pub added_pass : (test : Object → Bool) → ((name : Word) → test (log_in v.name state name) ≡ true) → list_all test made.laid.objects ≡ true → list_all test added ≡ true
    added_pass test logs rest =
        subst (λ os. list_all test os ≡ true) made.are
        (list_all-append test (map (log_in v.name state) made.names) made.laid.objects
        ∙ and_from _ _ (all_each test (map (log_in v.name state) made.names) (λ o there. let r = from_map (log_in v.name state) made.names o there in ap test r.2 ∙ logs r.0)) rest)

    any_logs : list_all (list_all (λ (e : Extent). true)) plan.logs ≡ true
    any_logs = all_each (list_all (λ (e : Extent). true)) plan.logs (λ es there. all_each (λ (e : Extent). true) es (λ e on. refl))

    -- all that is laid is of the logs
    laid_on : list_all (is_on made.names) made.laid.objects ≡ true
    laid_on = laid_pass (is_on made.names) (λ e. true) (λ plex there name col at e any. in_any (λ n. bytes_eq plex n) made.names plex there (bytes_eq_self plex)) any_logs

    part_on : (o : Object) → is_on made.names o ≡ true → is_part_of v.name added o ≡ true
    part_on (SubdiskRecord s) on =
        let n = any_in (λ n. refers s.plex n) made.names on in
        let o = log_in v.name state n.0 in
        let there = subst (λ os. IsIn os o) made.are (in_left (map (log_in v.name state) made.names) made.laid.objects o (in_map (log_in v.name state) made.names n.0 n.1)) in
        in_any (λ o. is_plex (λ p. refers s.plex p.name && refers p.vol v.name) o) added o there (and_from (refers s.plex n.0) (bytes_eq v.name v.name) n.2 (bytes_eq_self v.name))
    part_on o on = absurd (false≢true on)

    pub logs_are_of : AreOf v.name added
    logs_are_of =
        added_pass (is_part_of v.name added) (λ name. bytes_eq_self v.name)
        (all_each (is_part_of v.name added) made.laid.objects (λ o there. part_on o (all_in (is_on made.names) made.laid.objects o laid_on there)))

    -- ---- the plexes among them

    no_plex : (o : Object) → is_on made.names o ≡ true → as_plex o ≡ None
    no_plex (PlexRecord p) on = absurd (false≢true on)
    no_plex o on = refl

    logs_in : (names : List Word) → filter_map as_plex (map (log_in v.name state) names) ≡ map (log_at v.name state) names
    logs_in [] = refl
    logs_in (n ∷ ns) = ap (λ ps. log_at v.name state n ∷ ps) (logs_in ns)

    pub plexes_are_logs : plexes_in added ≡ map (log_at v.name state) made.names
    plexes_are_logs =
        ap (λ os. filter_map as_plex os) (sym made.are)
        ∙ filter_map-append as_plex (map (log_in v.name state) made.names) made.laid.objects
        ∙ ap (λ ps. ps ++ filter_map as_plex made.laid.objects) (logs_in made.names)
        ∙ ap (λ ps. map (log_at v.name state) made.names ++ ps) (none_picked as_plex made.laid.objects (λ o there. no_plex o (all_in (is_on made.names) made.laid.objects o laid_on there)))
        ∙ append-nil (map (log_at v.name state) made.names)

    is_log : (p : Plex) → IsIn (plexes_in added) p → (is_log_plex_of v.name p ≡ true) × (p.state ≡ state)
    is_log p there =
        let r = from_map (log_at v.name state) made.names p (subst (λ ps. IsIn ps p) plexes_are_logs there) in
        let own = and_from (bytes_eq v.name v.name) true (bytes_eq_self v.name) refl in
        (ap (λ (x : Plex). is_log_plex_of v.name x) r.2 ∙ own, ap (λ (x : Plex). x.state) r.2)

    pub are_logs : AreLogsOf v.name state added
    are_logs = record { of = logs_are_of; logs = λ p there. is_log p (is_in (plexes_in added) p there) }

    -- where the plan has a log there is one among them
    pub some_log : 1 ≤ length plan.logs → (p : Plex) × Contains (plexes_in added) p
    some_log some = by made.names made.count plexes_are_logs
      where
        by : (names : List Word) → length names ≡ length plan.logs → plexes_in added ≡ map (log_at v.name state) names → (p : Plex) × Contains (plexes_in added) p
        by [] e is = absurd (omega (arith, e, some))
        by (n ∷ ns) e is = (log_at v.name state n, contains (plexes_in added) (log_at v.name state n) (subst (λ ps. IsIn ps (log_at v.name state n)) (sym is) (inl refl)))
