-- Texts as the bytes that are typed. What a reader must believe.
use Rattle.std.specs.Prelude.{List, [], ◌∷◌, ℕ}
use Prim.Native.Char.{code}
use Prim.Native.String.{String}
use Prim.Native.String as string
use Rattle.demands.specs.Host.{Event, bytes}

abbrev pub ascii : String → List ℕ
ascii string.[] = []
ascii (string.◌∷◌ c s) = code c ∷ ascii s

abbrev pub typed : String → List Event
typed s = bytes (ascii s)
