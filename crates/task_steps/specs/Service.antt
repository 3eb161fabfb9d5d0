-- The types of what objects say of themselves, whatever they are.
use Rattle.run_machine.specs.Requests.{Request, Reply}

-- how they serve: what they are before, the request, the reply to it, and what they are behind it
abbrev pub Service : Type 0 → Type 1
Service S = S → Request → Reply → S → Type 0

-- what they owe for a request with this reply
abbrev pub Owing : Type 1
Owing = Request → Reply → Type 0
