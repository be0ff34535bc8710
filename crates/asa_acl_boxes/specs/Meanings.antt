-- What the names of list lines stand for, passed on.
pub use Rattle.asa_base.specs.Meanings.{Meanings}
