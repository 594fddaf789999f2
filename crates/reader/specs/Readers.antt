-- Where a reader stands.
use Rattle.entries.specs.declared.place.Place.{Place}
use Rattle.reader.specs.declared.Reader.{Reader}

-- the place of the byte that comes next
abbrev pub place_of : Reader → Place
place_of r = record { page = r.page; offset = r.offset }
