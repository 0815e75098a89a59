-- The lines of the generated script, without their newlines: applications are counted from 0, two to a package.
use Rattle.std.specs.Prelude.{ℕ, zero, suc, ◌+◌, ◌/◌, ◌%◌, ◌==◌, if◌then◌else◌, List, [], ◌∷◌, ◌++◌, codes, decimal}

-- the lines before the first install
abbrev pub opening : List (List ℕ)
opening =
    codes "layout" ∷ codes "user 5001 system" ∷ codes "user 5002 admin" ∷ codes "user 5003 normal"
    ∷ codes "user 5004 guest" ∷ []

-- a text, and behind it a number in decimal
abbrev pub numbered : List ℕ → ℕ → List ℕ
numbered text number = text ++ decimal number

-- an application is installed for every user, with two privileges
unfoldable pub install_line : ℕ → List ℕ
install_line app =
    numbered (codes "install pkg") (app / 2) ++ numbered (codes " - app") app ++ numbered (codes " * p") (app % 7)
    ++ numbered (codes " q") (app % 5)

-- the guest is denied the first privilege of an application
unfoldable pub deny_line : ℕ → List ℕ
deny_line app =
    numbered (codes "set ADMIN User::Pkg::pkg") (app / 2) ++ numbered (codes " 5004 p") (app % 7) ++ codes " deny"

-- a user asks for the first privilege of an application
unfoldable pub check_line : ℕ → ℕ → List ℕ
check_line app user =
    numbered (codes "check User::Pkg::pkg") (app / 2) ++ numbered (codes " ") user ++ numbered (codes " p") (app % 7)

-- ---- from an application on, so many of them

abbrev pub installs : ℕ → ℕ → List (List ℕ)
installs app zero = []
installs app (suc count) = install_line app ∷ installs (app + 1) count

-- every third application
abbrev pub denial : ℕ → List (List ℕ)
denial app = if app % 3 == 0 then deny_line app ∷ [] else []

abbrev pub denials : ℕ → ℕ → List (List ℕ)
denials app zero = []
denials app (suc count) = denial app ++ denials (app + 1) count

-- each of the four users
abbrev pub checks_of : ℕ → List (List ℕ)
checks_of app = check_line app 5001 ∷ check_line app 5002 ∷ check_line app 5003 ∷ check_line app 5004 ∷ []

abbrev pub checks : ℕ → ℕ → List (List ℕ)
checks app zero = []
checks app (suc count) = checks_of app ++ checks (app + 1) count

-- ---- the script

-- the commands of the script of so many applications
abbrev pub commands : ℕ → List (List ℕ)
commands count = opening ++ (installs 0 count ++ denials 0 count)

-- its questions
abbrev pub questions : ℕ → List (List ℕ)
questions count = checks 0 count
