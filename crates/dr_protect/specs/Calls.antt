-- What each call makes of the permissions.
use Rattle.std.specs.Prelude.{ℕ, ◌*◌, Bool, true, false, List, [], ◌∷◌, set, replicate}
use Rattle.dr_types.specs.declared.guest.SlotRow.{SlotRow}
use Rattle.dr_types.specs.Pages.{pages_of_slots}
use Rattle.dr_protect.specs.Permissions.{Permissions, cell}
use Rattle.dr_protect.specs.Masks.{named_pages}

-- before logging starts, each page may be written, and nothing is cached
abbrev pub unprotected : List SlotRow → ℕ → Permissions
unprotected rows vcpus = record {
  rows = rows;
  vcpus = vcpus;
  pages = pages_of_slots rows;
  writable = replicate (pages_of_slots rows) true;
  cached = replicate (vcpus * pages_of_slots rows) false;
}

-- nothing is cached
abbrev pub flushed : Permissions → Permissions
flushed it = record it { cached = replicate (it.vcpus * it.pages) false }

-- nothing may be written, and nothing is cached
abbrev pub started : Permissions → Permissions
started it = flushed (record it { writable = replicate it.pages false })

-- a vCPU has cached a page
abbrev pub filled : ℕ → ℕ → Permissions → Permissions
filled v page it = record it { cached = set it.cached (cell v page it) true }

-- a page may be written, and a vCPU has cached it
abbrev pub opened : ℕ → ℕ → Permissions → Permissions
opened v page it = filled v page (record it { writable = set it.writable page true })

-- a page may not be written
abbrev pub protected : ℕ → Permissions → Permissions
protected page it = record it { writable = set it.writable page false }

-- flags of which those of these numbers are cleared
abbrev pub cleared : List ℕ → List Bool → List Bool
cleared [] flags = flags
cleared (at ∷ later) flags = cleared later (set flags at false)

-- none of these pages may be written
abbrev pub all_protected : List ℕ → Permissions → Permissions
all_protected pages it = record it { writable = cleared pages it.writable }

-- none of the pages may be written that the mask names
abbrev pub masked : ℕ → ℕ → ℕ → Permissions → Permissions
masked slot base mask it = all_protected (named_pages it.rows slot base mask) it
