-- What `queues_good` tests: well-formed, as far as it speaks of the two queues alone. Its clauses are those of the rules; the rest
-- of this file is the same once more, entry by entry, as the code tests it.
-- A function is given the fields that it reads; the rules' records take 0, Free and no checkpoint for the others.
use Rattle.std.specs.Prelude.{ℕ, Bool, not, ◌&&◌, List, [], ◌∷◌, eqb, leb}
use Rattle.lists.specs.Padded.{every, rising}
use Rattle.rules.specs.declared.StoreEntry.{StoreEntry}
use Rattle.rules.specs.declared.LoadEntry.{LoadEntry}
use Rattle.rules.specs.declared.Request.TheVariants.{Free}
use Rattle.rules.specs.Shape.{Queues, Hierarchy, is_free_store, is_free_load}
use Rattle.rules.specs.WellFormed.{free_zero, free_places_last, committed_up_to_last, numbers_rise, numbers_up_to_last, numbers_apart, accesses_pass, committed_wait, waiting_uncovered, forwarded_answered, free_store_zero, free_load_zero, store_passes, load_passes, committed_wait_at, waiting_uncovered_at, forwarded_answered_at}
use Rattle.access.specs.AccessChecks.{sized}

-- ---- records from their fields

-- last, h and the two queues
abbrev pub queues_from : ℕ → ℕ → List StoreEntry → List LoadEntry → Queues
queues_from last h ss ls =
    record { last = last; committed = h; request = Free; stores = ss; loads = ls; checkpoints = [] }

-- h and the two queues
abbrev pub queues_with : ℕ → List StoreEntry → List LoadEntry → Queues
queues_with h ss ls = queues_from 0 h ss ls

-- ---- the clauses

-- those of well-formed that are not about lengths, 32 bits or the request
unfoldable pub queues_good : Queues → Hierarchy → Bool
queues_good q b =
    every (λ t. t)
    (free_zero q
    ∷ free_places_last q
    ∷ committed_up_to_last q
    ∷ numbers_rise q
    ∷ numbers_up_to_last q
    ∷ numbers_apart q
    ∷ accesses_pass q b
    ∷ committed_wait q
    ∷ waiting_uncovered q
    ∷ forwarded_answered q
    ∷ [])

-- ---- entry by entry

-- "Free places are zero."
unfoldable pub zero_store : StoreEntry → Bool
zero_store s = is_free_store s && (eqb s.address 0 && (eqb s.width 0 && eqb s.value 0))

unfoldable pub zero_load : LoadEntry → Bool
zero_load l = is_free_load l && (eqb l.address 0 && (eqb l.width 0 && (not l.waiting && not l.forwarded)))

-- what is asked of one entry of the store queue, by last and the memory length
unfoldable pub store_good : ℕ → ℕ → StoreEntry → Bool
store_good last size s = free_store_zero s && (leb s.number last && store_passes (sized size) s)

-- what is asked of one entry of the load queue, by last, h, the memory length and the held stores
unfoldable pub load_good : ℕ → ℕ → ℕ → List StoreEntry → LoadEntry → Bool
load_good last h size ss l =
    free_load_zero l
    && (leb l.number last && (load_passes (sized size) l && (committed_wait_at h l && (waiting_uncovered_at ss l && forwarded_answered_at l))))

-- each queue: numbers above m rise up to the free places, and each entry is good
unfoldable pub stores_good : ℕ → ℕ → ℕ → List StoreEntry → Bool
stores_good last size m ss = rising (λ s. s.number) m ss && every (store_good last size) ss

unfoldable pub loads_good : ℕ → ℕ → ℕ → List StoreEntry → ℕ → List LoadEntry → Bool
loads_good last h size ss m ls = rising (λ l. l.number) m ls && every (load_good last h size ss) ls
