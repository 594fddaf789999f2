-- The bytes of an image are bytes, and so are those from a place on.
use Rattle.std.proofs.Common.{ℕ, zero, suc, ◌*◌, ◌<◌, List, [], ◌∷◌, get_or, drop, sym, subst}
use Rattle.blockfile.specs.Bytes.{pg, Every}
use Rattle.blockfile.proofs.Every.{every-join}
use Rattle.pages.proofs.Words.{Byte, bytes-all, bytes_take, bytes_drop}
use Rattle.entries.specs.declared.place.Place.{Place}
use Rattle.entries.specs.Places.{stream_of, Rest}

bytes-page : (img : List ℕ) (n : ℕ) → Every Byte img → Every Byte (pg img n)
unfolding pg
bytes-page img zero h = tt
bytes-page img (suc k) h = bytes_take 1024 (drop (1024 * k) img) (bytes_drop (1024 * k) img h)

bytes-stream : (img ps : List ℕ) → Every Byte img → Every Byte (stream_of img ps)
bytes-stream img [] h = tt
bytes-stream img (p ∷ ps) h = every-join Byte (drop 8 (pg img p)) (stream_of img ps) (bytes_drop 8 (pg img p) (bytes-page img p h)) (bytes-stream img ps h)

pub bytes_rest : (img : List ℕ) → ((i : ℕ) → get_or img i 0 < 256) → (at : Place) (s : List ℕ) → Rest img at s → Every Byte s
bytes_rest img bytes at s r =
    let w : Every Byte img = bytes-all img bytes in
    subst (Every Byte) (sym r.is) (every-join Byte (drop at.offset (pg img at.page)) (stream_of img r.more)
    (bytes_drop at.offset (pg img at.page) (bytes-page img at.page w)) (bytes-stream img r.more w))
