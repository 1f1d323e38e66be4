mod Laws
mod HexLaws
mod OutLaws
mod ShownLaws
