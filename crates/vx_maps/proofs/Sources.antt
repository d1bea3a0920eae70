-- What a store that was loaded has of the copies that it was made of.
use Rattle.std.proofs.Common.{◌≡◌, inl, inr, ℕ, ◌/◌, ◌<◌, Bool, refl, sym, ◌∙◌, ap, subst, arith, List, length, true, false, Result, Ok, Err}
use Rattle.std.specs.Prelude.{is_some, nat_lt, ◌&&◌, IfOk}
use Rattle.std.proofs.lemmas.Bool.{ltb-true}
use Rattle.vx_base.specs.Counts.{Rose}
use Rattle.vx_mapfmt.specs.Bits.{bit_in, marks}
use Rattle.vx_mapfmt.specs.Sizes.{map_bytes_of, page_count, page_sector}
use Rattle.vx_mapfmt.proofs.SizeLemmas.{page_fits}
use Rattle.vx_piece.specs.Seen.{Seen}
use Rattle.vx_runs.specs.Run.{RunTells, run_contents}
use Rattle.vx_pages.specs.declared.local_piece.LocalPiece.{Ghosts}
use Rattle.vx_pages.specs.Reading.{image_at}
use Rattle.vx_pages.specs.Sector.{IsOpen, KeepsPiece, tells}
use Rattle.vx_pages.specs.Page.{sector_at}
use Rattle.vx_pages.specs.Pages.{grid_seen}
use Rattle.vx_maps.specs.declared.fault.StoreFault.{StoreFault}
use Rattle.vx_maps.specs.declared.fault.StoreFault.TheVariants.{OutOfMemory, NoCopy, Failed, PowerLost}
use Rattle.vx_maps.specs.declared.store.MapStore.{MapStore}
use Rattle.vx_maps.specs.Copies.{SameRuns}
use Rattle.vx_maps.specs.Creating.{AllTell}
use Rattle.vx_maps.specs.Going.{StoreGoes}
use Rattle.vx_maps.specs.Loading.{AreClaims, FilledAt, IsHeaded, IsLoaded, IsNotLoaded, IsPassed, IsPassedBy, IsTaken, IsUnfilledAs, TakenBy, copy_at, images_at}
use Rattle.vx_maps.specs.Narrowing.{AreNarrowed}
use Rattle.vx_maps.specs.Sheets.{sheets_seen}
use Rattle.vx_maps.specs.Slots.{copies_in, row_at}
use Rattle.vx_maps.specs.Store.{AreLogsOf, pages_seen, store_log}
use Rattle.vx_maps.specs.Stores.{store_seen}
use Rattle.vx_maps.specs.Wholes.{copy_faults, store_copies, store_faults}
use Rattle.vx_maps.proofs.Cells.{sector_tells}
use Rattle.vx_maps.proofs.Claims.{claims_at, claims_told, contents_same, same_at, same_count}
use Rattle.vx_maps.proofs.Contents.{grid_count, store_begins, store_count, store_holds, store_some, tells_begin}
use Rattle.vx_maps.proofs.Narrowed.{image_bit, narrowed_cut}
use Rattle.vx_maps.proofs.PageRows.{logs_goes}
use Rattle.vx_maps.proofs.Refusals.{runs_tell}
use Rattle.vx_maps.proofs.Rows.{laid_holed}

guarded : (a b x y : Bool) → (a ≡ true → b ≡ true → x ≡ y) → ((a && b) && x) ≡ ((a && b) && y)
guarded true true x y same = same refl refl
guarded true false x y same = refl
guarded false b x y same = refl

pub if_all : {A E : Type 0} (r : Result A E) (F G H K : A → Type 0) → ((x : A) → F x → G x → H x → K x) → IfOk r F → IfOk r G → IfOk r H → IfOk r K
if_all (Ok x) F G H K on f g h = on x f g h
if_all (Err e) F G H K on f g h = tt

module _ {P : Type 0} {ghosts : Ghosts P} (cut : MapStore P ghosts) (old : List (List Seen)) (same : SameRuns old (store_copies ghosts.seen cut)) (counts : (copy device : ℕ) → store_faults ghosts.seen cut copy device ≡ copy_faults old copy device) where
  inside : (n : ℕ) → n < length (store_copies ghosts.seen cut) → n < copies_in (sheets_seen ghosts.seen cut.base.sheets)
  inside n lt = let e = store_count cut in omega (arith, e, lt)

  passed_out : (header : List ℕ) (new : ℕ → ℕ → ℕ) (n : ℕ) → n < length (store_copies ghosts.seen cut) → IsPassedBy header (store_faults ghosts.seen cut) new (store_copies ghosts.seen cut) n → IsPassed header (copy_faults old) new old n
  passed_out header new n lt (inl rose) = inl (rose.0, subst (λ (k : ℕ). Rose k (new n rose.0)) (counts n rose.0) rose.1)
  passed_out header new n lt (inr bad) =
      inr (λ tell e.
      let run = same_at old (store_copies ghosts.seen cut) n same in
      bad (tells_begin _ (run.tells tell) (store_some cut n (inside n lt))) ((store_begins cut n (inside n lt) header).1 (contents_same _ _ 0 run ∙ e)))

  headed_out : (header : List ℕ) (n : ℕ) → n < length (store_copies ghosts.seen cut) → IsHeaded header (store_copies ghosts.seen cut) n → RunTells (copy_at old n) → run_contents (copy_at old n) 0 ≡ header
  headed_out header n lt headed tell =
      let run = same_at old (store_copies ghosts.seen cut) n same in
      sym (contents_same _ _ 0 run) ∙ (store_begins cut n (inside n lt) header).0 (headed (tells_begin _ (run.tells tell) (store_some cut n (inside n lt))))

  abbrev taken_out : (header : List ℕ) (new : ℕ → ℕ → ℕ) → TakenBy header (store_faults ghosts.seen cut) new (store_copies ghosts.seen cut) → IsTaken header (copy_faults old) new old
  taken_out header new taken =
      let size = same_count old (store_copies ghosts.seen cut) same in
      record {
        copy = taken.copy;
        inside = (let i = taken.inside in omega (arith, size, i));
        passed = λ n lt. passed_out header new n (let i = taken.inside in omega (arith, i, lt)) (taken.passed n lt);
        headed = headed_out header taken.copy taken.inside taken.headed;
      }

  -- the copies were given back
  pub not_loaded : (header : List ℕ) (fault : StoreFault) (copies : List (List Seen)) → IsUnfilledAs header fault (store_faults ghosts.seen cut) (store_copies ghosts.seen cut) copies → IsNotLoaded header fault old copies
  not_loaded header OutOfMemory copies h = absurd h
  not_loaded header NoCopy copies h = λ n lt. let size = same_count old (store_copies ghosts.seen cut) same in let low : n < length (store_copies ghosts.seen cut) = omega (arith, size, lt) in passed_out header (copy_faults copies) n low (h n low)
  not_loaded header (Failed copy device) copies h = (taken_out header (copy_faults copies) h.0, subst (λ (k : ℕ). Rose k (copy_faults copies copy device)) (counts copy device) h.1)
  not_loaded header PowerLost copies h = h

  module _ (new : MapStore P ghosts) (header : List ℕ) (of : AreLogsOf cut.base.shape.regions (is_some (sheets_seen ghosts.seen cut.base.sheets).second) IsOpen (grid_seen ghosts.seen cut.pages.items) (pages_seen ghosts.seen cut.pages.items)) (go : StoreGoes ghosts.seen KeepsPiece cut new)
      (filled : FilledAt header cut.base.shape.regions (store_faults ghosts.seen cut) (store_faults ghosts.seen new) (store_copies ghosts.seen cut) (store_copies ghosts.seen new) (grid_seen ghosts.seen cut.pages.items) (grid_seen ghosts.seen new.pages.items))
      (narrowed : AllTell (store_copies ghosts.seen cut) → AreNarrowed header cut.base.shape.regions (store_copies ghosts.seen cut) (store_copies ghosts.seen new)) where
    logs_now : AreLogsOf cut.base.shape.regions (is_some (sheets_seen ghosts.seen cut.base.sheets).second) (λ s. Unit {0}) (grid_seen ghosts.seen new.pages.items) (pages_seen ghosts.seen new.pages.items)
    logs_now = logs_goes KeepsPiece cut.base.shape.regions _ IsOpen (λ s. Unit {0}) cut.pages.items new.pages.items go.places go.grid (λ i lt m in'. tt) of

    count_now : length (grid_seen ghosts.seen new.pages.items) ≡ page_count cut.base.shape.regions
    count_now = go.grid.size ∙ grid_count cut

    read_bit : (region map : ℕ) → RunTells (copy_at old filled.copy) → region < cut.base.shape.regions → map < 32 →
        bit_in (image_at (images_at filled.rows (region / 4096)) map) region ≡ bit_in (run_contents (copy_at old filled.copy) (page_sector (map_bytes_of cut.base.shape.regions) map (region / 4096))) region
    read_bit region map tell in' low =
        let run = same_at old (store_copies ghosts.seen cut) filled.copy same in
        let at = inside filled.copy filled.found.inside in
        image_bit cut filled.copy filled.rows at filled.found.gives (run.tells tell) map region in' low
        ∙ ap (λ (x : List ℕ). bit_in x region)
        (sym (store_holds cut filled.copy (region / 4096) map at (omega (arith, in')) low) ∙ contents_same _ _ (page_sector cut.base.shape.map_bytes map (region / 4096)) run ∙ ap (λ (b : ℕ). run_contents (copy_at old filled.copy) (page_sector b map (region / 4096))) cut.base.shape.map_sized)

    claims : RunTells (copy_at old filled.copy) → (region map : ℕ) → (store_log cut.base.shape.regions (pages_seen ghosts.seen new.pages.items)).claims region map ≡ marks cut.base.shape.regions (run_contents (copy_at old filled.copy)) map region
    claims tell region map =
        claims_at cut.base.shape.regions _ (λ s. Unit {0}) filled.rows (grid_seen ghosts.seen cut.pages.items) (grid_seen ghosts.seen new.pages.items) (pages_seen ghosts.seen new.pages.items) logs_now count_now filled.settled region map
        ∙ guarded (nat_lt region cut.base.shape.regions) (nat_lt map 32) _ _ (λ a b. read_bit region map tell (ltb-true region cut.base.shape.regions a) (ltb-true map 32 b))

    sectors_tell : AllTell old → (i m : ℕ) → i < length (grid_seen ghosts.seen new.pages.items) → m < 32 → tells (sector_at (row_at (grid_seen ghosts.seen cut.pages.items) i) m).copies ≡ true
    sectors_tell tell i m lt low =
        let all = runs_tell old (store_copies ghosts.seen cut) same tell in
        let s = go.grid.size in
        let total = grid_count cut in
        let in' : i < length (grid_seen ghosts.seen cut.pages.items) = omega (arith, s, lt) in
        let rows = of.rows i in' in
        let holed = laid_holed _ _ (grid_seen ghosts.seen cut.pages.items) (sheets_seen ghosts.seen cut.base.sheets) cut.base.laid of.rows total in
        sector_tells (cut.base.shape.map_bytes / 512) (grid_seen ghosts.seen cut.pages.items) (sheets_seen ghosts.seen cut.base.sheets) i m holed low rows (page_fits cut.base.shape.regions cut.base.shape.map_bytes i cut.base.shape.map_sized (omega (arith, total, in')))
        (of.pairs i in' m (omega (arith, rows, low))) all

    told : AllTell old → AreClaims (store_log cut.base.shape.regions (pages_seen ghosts.seen new.pages.items)).copies (store_log cut.base.shape.regions (pages_seen ghosts.seen new.pages.items)).claims (store_log cut.base.shape.regions (pages_seen ghosts.seen new.pages.items)).told
    told tell =
        claims_told cut.base.shape.regions _ (λ s. Unit {0}) filled.rows (grid_seen ghosts.seen cut.pages.items) (grid_seen ghosts.seen new.pages.items) (pages_seen ghosts.seen new.pages.items) logs_now count_now filled.settled (sectors_tell tell)

    abbrev taken : IsTaken header (copy_faults old) (store_faults ghosts.seen new) old
    taken = taken_out header (store_faults ghosts.seen new) (record { copy = filled.copy; inside = filled.found.inside; passed = λ n lt. filled.found.passed n (omega arith) lt; headed = filled.found.headed })

    pub loaded : IsLoaded header cut.base.shape.regions old (store_faults ghosts.seen new) (store_copies ghosts.seen new) (store_seen ghosts.seen new)
    loaded =
        subst (λ shape. IsLoaded header cut.base.shape.regions old (store_faults ghosts.seen new) (store_copies ghosts.seen new) (store_log shape.regions (pages_seen ghosts.seen new.pages.items))) (sym go.shape)
        (record {
          taken = taken;
          claims = claims;
          told = told;
          heads = filled.heads;
          narrowed = λ tell. narrowed_cut header cut.base.shape.regions old (store_copies ghosts.seen cut) (store_copies ghosts.seen new) same (narrowed (runs_tell old (store_copies ghosts.seen cut) same tell));
        })
