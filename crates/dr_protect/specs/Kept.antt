-- What is kept for the permissions.
use Rattle.dr_protect.specs.declared.protect.Protect.TheInside.{Inside}
use Rattle.dr_protect.specs.Permissions.{Permissions}

-- the permissions that the fields are
abbrev pub permissions_of : Inside → Permissions
permissions_of it = record {
  rows = it.slots;
  vcpus = it.vcpus;
  pages = it.pages;
  writable = it.writable.items;
  cached = it.cached;
}
