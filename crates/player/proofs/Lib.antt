mod SameLaws
mod AskingLaws
mod WrittenLaws
mod PlayLaws
mod Witness
