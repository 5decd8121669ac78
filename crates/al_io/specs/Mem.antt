-- What the objects in memory hold.
use Rattle.std.specs.Prelude.{ℕ, ◌+◌, ◌-◌, ◌^◌, min, Bool, List, [], ◌∷◌, drop, nat_eq, if◌then◌else◌, Some, None}
use Rattle.std.specs.List.{Contains}
use Rattle.std.specs.Cmp.Lexicographic.{pointwise}
use Rattle.al_io.specs.declared.mem.MemFile.{MemFile}
use Rattle.al_io.specs.declared.mem.MemSource.{MemSource}
use Rattle.al_io.specs.Outside.{Bytes, Files}

-- the content of the first file of a name
abbrev pub file_of : List MemFile → Files
file_of [] name = None
file_of (f ∷ fs) name = if pointwise nat_eq f.name name then Some f.bytes else file_of fs name

abbrev pub files_in : MemSource → List MemFile
files_in s = s.files

-- the numbers of the calls that fail
abbrev pub failing_in : MemSource → List ℕ
failing_in s = s.failing

abbrev pub faults_in : MemSource → ℕ
faults_in s = s.faults

-- how many calls of `open` and `read` there were
abbrev pub calls_in : MemSource → ℕ
calls_in s = s.calls

-- what is left of the open file
abbrev pub content_in : MemSource → Bytes
content_in s = drop s.at s.content

abbrev pub is_open_in : MemSource → Bool
is_open_in s = s.opened

-- the next call is one of those that fail
abbrev pub Fails : MemSource → Type 0
Fails s = Contains s.failing s.calls

-- the number of the call after this one; a count stands still at its type's end
abbrev pub next_call : ℕ → ℕ
next_call n = min (n + 1) (2 ^ 64 - 1)
